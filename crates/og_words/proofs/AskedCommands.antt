-- The command that words are, by what clap answers about them.
use Rattle.std.proofs.Common.{◌≡◌, ◌≢◌, ◌∙◌, inl, inr, [], ℕ, List, true, false, Some, Result, Err, IfOk, refl, sym, subst, ap, not, length, ◌==◌}
use Rattle.std.proofs.lemmas.Result.{IfOk-weaker}
use Rattle.clap.specs.Words.{App, HasKind, HasMatchesOf, fault_of, is_simple_and_free, kind_of, subcommand_of, subcommand_rows_of}
use Rattle.clap.specs.declared.error.Error.{Error}
use Rattle.clap.specs.declared.error.kind.ErrorKind.TheVariants.{OutOfMemory}
use Rattle.clap.specs.declared.parser.matches.ArgMatches.{ArgMatches}
use Rattle.og_words.specs.Grammar.{IsCommand}
use Rattle.og_words.specs.Said.{IsSaid, Said, said_of}
use Rattle.og_words.specs.Shape.{are_asked, ongq}
use Rattle.og_words.specs.declared.command.Command.{Command}
use Rattle.og_words.specs.declared.command.WordsRefusal.{WordsRefusal}
use Rattle.og_words.proofs.Commands.{command_formed, form_command}
use Rattle.og_words.proofs.Forms.{Form, Told, form_said, form_taken, is_refused, said_by, words}
use Rattle.og_words.proofs.WordKinds.{asked_told, form_asked}

-- ---- of the command line of ongq

-- words that clap takes have a form
taken_form : (ws : List (List ℕ)) → fault_of ongq ws ≡ [] → Told ws → (f : Form) × (ws ≡ words f)
taken_form ws none (inl refused) = let taken : is_refused ws ≡ false = ap (λ ks. not (length ks == 0)) none in absurd (cc (refused, taken))
taken_form ws none (inr form) = form

-- what clap says of words of a form
said_form : (ws : List (List ℕ)) (m : ArgMatches) (f : Form) → HasMatchesOf ongq ws m → ws ≡ words f → said_of (subcommand_rows_of m) ≡ Some (said_by f)
said_form ws m f has e = ap said_of (has refl).1 ∙ ap (λ x. said_of (subcommand_of ongq x)) e ∙ form_said f

-- ---- of a command line that is that of ongq

pub taken_command : (app : App) (ws : List (List ℕ)) (m : ArgMatches) (r : Result Command WordsRefusal) → app ≡ ongq → are_asked ws ≡ true → (is_simple_and_free app ≡ true → fault_of app ws ≡ []) → HasMatchesOf app ws m
    → ((s : Said) → said_of (subcommand_rows_of m) ≡ Some s → IfOk r (IsSaid s)) → IfOk r (IsCommand ws)
taken_command app ws m r e asked none has is =
    let form = taken_form ws (subst (λ a. is_simple_and_free a ≡ true → fault_of a ws ≡ []) e none refl) (asked_told ws asked) in
    let said = said_form ws m form.0 (subst (λ a. HasMatchesOf a ws m) e has) form.1 in
    IfOk-weaker r _ _ (λ c h. subst (λ x. IsCommand x c) (sym form.1) (form_command form.0 c h)) (is (said_by form.0) said)

pub none_taken : (app : App) (ws : List (List ℕ)) (m : ArgMatches) (r : Result Command WordsRefusal) → app ≡ ongq → HasMatchesOf app ws m
    → ((s : Said) → said_of (subcommand_rows_of m) ≡ Some s → r ≡ Err WordsRefusal.NoCommand → (c : Command) → ¬ IsSaid s c) → r ≡ Err WordsRefusal.NoCommand → (c : Command) → ¬ IsCommand ws c
none_taken app ws m r e has none refused c h =
    let form = command_formed ws c h in
    none (said_by form.0) (said_form ws m form.0 (subst (λ a. HasMatchesOf a ws m) e has) form.1) refused c form.2

no_fault : (e : Error) → HasKind [] e → kind_of e ≢ OutOfMemory → ⊥
no_fault e (inl memory) other = other memory
no_fault e (inr none) other = none

pub refused_none : (app : App) (ws : List (List ℕ)) (e : Error) → app ≡ ongq → (is_simple_and_free app ≡ true → HasKind (fault_of app ws) e) → kind_of e ≢ OutOfMemory → (c : Command) → ¬ IsCommand ws c
refused_none app ws e is has other c h =
    let form = command_formed ws c h in
    let none : fault_of ongq ws ≡ [] = ap (fault_of ongq) form.1 ∙ form_taken form.0 in
    no_fault e (subst (λ ks. HasKind ks e) none (subst (λ a. is_simple_and_free a ≡ true → HasKind (fault_of a ws) e) is has refl)) other

-- ---- before clap is asked

-- words that clap is not asked about are no command
pub unasked_none : (ws : List (List ℕ)) → are_asked ws ≡ false → (c : Command) → ¬ IsCommand ws c
unasked_none ws out c h =
    let form = command_formed ws c h in let asked = ap are_asked form.1 ∙ form_asked form.0 in cc (asked, out)

pub same_asked : (ws vs : List (List ℕ)) → ws ≡ vs → are_asked ws ≡ true → are_asked vs ≡ true
same_asked ws vs e h = subst (λ x. are_asked x ≡ true) e h
