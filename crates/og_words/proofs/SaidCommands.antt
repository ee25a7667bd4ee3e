-- The command that clap says, by the name of the subcommand.
use Rattle.std.proofs.Common.{◌≡◌, ◌∙◌, ℕ, ℤ, List, Option, None, Some, Result, Ok, Err, IfOk, IfSome, IfNone, ok_or, codes, refl, sym, subst, ap, ap₂, box_value, option_map, Box}
use Rattle.std.specs.Str.{IsUtf8}
use Rattle.clap.specs.Words.{Row, Text, subcommand_name_of, subcommand_rows, subcommand_rows_of}
use Rattle.clap.specs.declared.parser.matches.ArgMatches.{ArgMatches}
use Rattle.clap.specs.declared.parser.matches.ArgMatches.TheViews.{out-ArgMatches, out-SubCommand}
use Rattle.clap.specs.declared.parser.matches.SubCommand.{SubCommand}
use Rattle.og_base.specs.Calendar.{IsRefDayText}
use Rattle.og_words.specs.Grammar.{IsRows, IsWorkers}
use Rattle.og_words.specs.Said.{IsAsked, IsSaid, Said, said, said_at, said_load, said_of, said_run}
use Rattle.og_words.specs.declared.command.Command.{Command}
use Rattle.og_words.specs.declared.command.Command.TheVariants as commands
use Rattle.og_words.specs.declared.command.WordsRefusal.{WordsRefusal}

abbrev pub ByRun : Said → Command → Type 0
ByRun s c = (workers : ℕ) × IsAsked s.workers workers × (c ≡ commands.Run workers)

abbrev pub ByAt : Said → Command → Type 0
ByAt s c = (file text : List ℕ) × (day : ℤ) × (s.file ≡ Some file) × IsUtf8 file × (s.day ≡ Some text) × IsRefDayText text day × (c ≡ commands.At file day)

abbrev pub ByLoad : Said → Command → Type 0
ByLoad s c = (n : List ℕ) × (rows : ℕ) × (workers : ℕ) × (s.rows ≡ Some n) × IsRows n rows × IsAsked s.workers workers × (c ≡ commands.Load rows workers)

pub by_run : (s : Said) (c : Command) → s.name ≡ codes "run" → IsSaid s c → ByRun s c
by_run s c e (said_run workers f g k) = (workers, g, k)
by_run s c e (said_at file text day f g h i j k) = absurd (let other : codes "run" ≡ codes "at" = sym e ∙ f in cc)
by_run s c e (said_load n rows workers f g h i k) = absurd (let other : codes "run" ≡ codes "load" = sym e ∙ f in cc)

pub by_at : (s : Said) (c : Command) → s.name ≡ codes "at" → IsSaid s c → ByAt s c
by_at s c e (said_run workers f g k) = absurd (let other : codes "at" ≡ codes "run" = sym e ∙ f in cc)
by_at s c e (said_at file text day f g h i j k) = (file, text, day, g, h, i, j, k)
by_at s c e (said_load n rows workers f g h i k) = absurd (let other : codes "at" ≡ codes "load" = sym e ∙ f in cc)

pub by_load : (s : Said) (c : Command) → s.name ≡ codes "load" → IsSaid s c → ByLoad s c
by_load s c e (said_run workers f g k) = absurd (let other : codes "load" ≡ codes "run" = sym e ∙ f in cc)
by_load s c e (said_at file text day f g h i j k) = absurd (let other : codes "load" ≡ codes "at" = sym e ∙ f in cc)
by_load s c e (said_load n rows workers f g h i k) = (n, rows, workers, g, h, i, k)

pub same_some : {T : Type 0} (v w : T) → Some v ≡ Some w → w ≡ v
same_some v w e = cc

-- ---- by the values

pub same_asked : (o p : Option Text) (n : ℕ) → o ≡ p → IsAsked o n → IsAsked p n
same_asked o p n e h = subst (λ x. IsAsked x n) e h

pub none_asked : (o : Option Text) (v : Text) → Some v ≡ o → ((n : ℕ) → ¬ IsWorkers v n) → (n : ℕ) → ¬ IsAsked o n
none_asked o v e none n h = none n (same_asked o (Some v) n (sym e) h)

pub run_unasked : (s : Said) → s.name ≡ codes "run" → ((n : ℕ) → ¬ IsAsked s.workers n) → (c : Command) → ¬ IsSaid s c
run_unasked s e none c h = let p = by_run s c e h in none p.0 p.1

pub at_no_file : (s : Said) → s.name ≡ codes "at" → None ≡ s.file → (c : Command) → ¬ IsSaid s c
at_no_file s e none c h = let p = by_at s c e h in let bad : None ≡ Some p.0 = none ∙ p.3 in cc

pub at_no_text : (s : Said) → s.name ≡ codes "at" → None ≡ s.day → (c : Command) → ¬ IsSaid s c
at_no_text s e none c h = let p = by_at s c e h in let bad : None ≡ Some p.1 = none ∙ p.5 in cc

pub at_no_day : (s : Said) (text : List ℕ) → s.name ≡ codes "at" → Some text ≡ s.day → ((d : ℤ) → ¬ IsRefDayText text d) → (c : Command) → ¬ IsSaid s c
at_no_day s text e f none c h =
    let p = by_at s c e h in none p.2 (subst (λ t. IsRefDayText t p.2) (same_some text p.1 (f ∙ p.5)) p.6)

pub at_is : (s : Said) (file text name : List ℕ) (day : ℤ) → s.name ≡ codes "at" → Some file ≡ s.file → Some text ≡ s.day → name ≡ file → IsUtf8 file → IsRefDayText text day → IsSaid s (commands.At name day)
at_is s file text name day e f g n u d = said_at file text day e (sym f) u (sym g) d (ap (λ x. commands.At x day) n)

pub load_no_rows : (s : Said) → s.name ≡ codes "load" → None ≡ s.rows → (c : Command) → ¬ IsSaid s c
load_no_rows s e none c h = let p = by_load s c e h in let bad : None ≡ Some p.0 = none ∙ p.3 in cc

pub load_bad_rows : (s : Said) (n : List ℕ) → s.name ≡ codes "load" → Some n ≡ s.rows → ((r : ℕ) → ¬ IsRows n r) → (c : Command) → ¬ IsSaid s c
load_bad_rows s n e f none c h =
    let p = by_load s c e h in none p.1 (subst (λ x. IsRows x p.1) (same_some n p.0 (f ∙ p.3)) p.4)

pub load_unasked : (s : Said) → s.name ≡ codes "load" → ((n : ℕ) → ¬ IsAsked s.workers n) → (c : Command) → ¬ IsSaid s c
load_unasked s e none c h = let p = by_load s c e h in none p.2 p.5

pub load_is : (s : Said) (n : List ℕ) (rows workers : ℕ) → s.name ≡ codes "load" → Some n ≡ s.rows → IsRows n rows → IsAsked s.workers workers → IsSaid s (commands.Load rows workers)
load_is s n rows workers e f h k = said_load n rows workers e (sym f) h k refl

pub run_is : (s : Said) (workers : ℕ) → s.name ≡ codes "run" → IsAsked s.workers workers → IsSaid s (commands.Run workers)
run_is s workers e h = said_run workers e h refl

-- ---- by the matches

-- what is said is by the name and the rows of the subcommand that was met
pub met_said : (m : ArgMatches) (name : Text) (rows : List Row) → Some name ≡ subcommand_name_of m → Some rows ≡ option_map (λ p. p.1) (subcommand_rows_of m) → said_of (subcommand_rows_of m) ≡ Some (said name rows)
met_said m name rows e f = by (out-ArgMatches m).subcommand e f
  where
    by : {Z : Type 0} (o : Option (Box SubCommand Z)) → Some name ≡ option_map (λ b. (out-SubCommand (box_value b)).name.now) o → Some rows ≡ option_map (λ p. p.1) (subcommand_rows o)
        → said_of (subcommand_rows o) ≡ Some (said name rows)
    by None e f = cc
    by (Some b) e f = ap₂ (λ n r. Some (said n r)) (same_some name _ e) (same_some rows _ f)

pub met : (m : ArgMatches) (name : Text) (rows : List Row) (s : Said) → Some name ≡ subcommand_name_of m → Some rows ≡ option_map (λ p. p.1) (subcommand_rows_of m) → said_of (subcommand_rows_of m) ≡ Some s → said name rows ≡ s
met m name rows s e f g = same_some s _ (sym g ∙ met_said m name rows e f)

-- a command, or none, by what is said of a subcommand whose name is known
pub met_command : (m : ArgMatches) (known name : Text) (rows : List Row) (r : Result Command WordsRefusal) → Some name ≡ subcommand_name_of m → name ≡ known → Some rows ≡ option_map (λ p. p.1) (subcommand_rows_of m)
    → IfOk r (IsSaid (said known rows)) → (s : Said) → said_of (subcommand_rows_of m) ≡ Some s → IfOk r (IsSaid s)
met_command m known name rows r e k f h s g = subst (λ t. IfOk r (IsSaid t)) (ap (λ n. said n rows) (sym k) ∙ met m name rows s e f g) h

pub met_none : (m : ArgMatches) (known name : Text) (rows : List Row) (r : Result Command WordsRefusal) → Some name ≡ subcommand_name_of m → name ≡ known → Some rows ≡ option_map (λ p. p.1) (subcommand_rows_of m)
    → (r ≡ Err WordsRefusal.NoCommand → (c : Command) → ¬ IsSaid (said known rows) c) → (s : Said) → said_of (subcommand_rows_of m) ≡ Some s → r ≡ Err WordsRefusal.NoCommand → (c : Command) → ¬ IsSaid s c
met_none m known name rows r e k f h s g i c j = h i c (subst (λ t. IsSaid t c) (sym (ap (λ n. said n rows) (sym k) ∙ met m name rows s e f g)) j)

ok_or_said : (o : Option Command) (r : Result Command WordsRefusal) (P : Command → Type 0) → r ≡ ok_or o WordsRefusal.NoCommand → IfSome o P → IfOk r P
ok_or_said None r P e h = subst (λ x. IfOk x P) (sym e) tt
ok_or_said (Some c) r P e h = subst (λ x. IfOk x P) (sym e) h

ok_or_none : (o : Option Command) (r : Result Command WordsRefusal) (P : Type 0) → r ≡ ok_or o WordsRefusal.NoCommand → IfNone o P → r ≡ Err WordsRefusal.NoCommand → P
ok_or_none None r P e h k = h
ok_or_none (Some c) r P e h k = absurd (let bad : Ok c ≡ Err WordsRefusal.NoCommand = sym e ∙ k in cc)

-- the same of a command that may be missing
pub met_option : (m : ArgMatches) (known name : Text) (rows : List Row) (o : Option Command) (r : Result Command WordsRefusal) → Some name ≡ subcommand_name_of m → name ≡ known → Some rows ≡ option_map (λ p. p.1) (subcommand_rows_of m)
    → r ≡ ok_or o WordsRefusal.NoCommand → IfSome o (IsSaid (said known rows)) → (s : Said) → said_of (subcommand_rows_of m) ≡ Some s → IfOk r (IsSaid s)
met_option m known name rows o r e k f i h = met_command m known name rows r e k f (ok_or_said o r _ i h)

pub met_option_none : (m : ArgMatches) (known name : Text) (rows : List Row) (o : Option Command) (r : Result Command WordsRefusal) → Some name ≡ subcommand_name_of m → name ≡ known → Some rows ≡ option_map (λ p. p.1) (subcommand_rows_of m)
    → r ≡ ok_or o WordsRefusal.NoCommand → IfNone o ((c : Command) → ¬ IsSaid (said known rows) c) → (s : Said) → said_of (subcommand_rows_of m) ≡ Some s → r ≡ Err WordsRefusal.NoCommand → (c : Command) → ¬ IsSaid s c
met_option_none m known name rows o r e k f i h = met_none m known name rows r e k f (ok_or_none o r _ i h)
