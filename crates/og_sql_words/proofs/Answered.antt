-- What words ask for, by what clap answers about a command line that is that of the program.
use Rattle.std.proofs.Common.{◌≡◌, ◌≢◌, inl, inr, [], List, true, Result, IfOk, refl, sym, subst}
use Rattle.std.proofs.lemmas.Result.{IfOk-weaker}
use Rattle.clap.specs.Words.{App, HasKind, HasMatchesOf, Row, Text, fault_of, found_of, is_simple_and_free, kind_of, matches_of, rows_of}
use Rattle.clap.specs.declared.error.Error.{Error}
use Rattle.clap.specs.declared.error.kind.ErrorKind.TheVariants.{DisplayHelp, OutOfMemory}
use Rattle.clap.specs.declared.parser.matches.ArgMatches.{ArgMatches}
use Rattle.og_sql_words.specs.Asked.{IsAsked, IsSqlFor, IsTarget, IsWrong, no_target, refused, sql}
use Rattle.og_sql_words.specs.Shape.{ongq_sql}
use Rattle.og_sql_words.specs.declared.asked.Asked.{Asked}
use Rattle.og_sql_words.specs.declared.asked.Asked.TheVariants as asks
use Rattle.og_sql_words.specs.declared.asked.WordsRefusal.{WordsRefusal}
use Rattle.og_sql_words.specs.declared.target.Target.{Target}

-- clap has no error for the words
no_fault : (app : App) (ws : List Text) → app ≡ ongq_sql → (is_simple_and_free app ≡ true → fault_of app ws ≡ []) → fault_of ongq_sql ws ≡ []
no_fault app ws e none = subst (λ a. is_simple_and_free a ≡ true → fault_of a ws ≡ []) e none refl

-- the rows of its matches
same_rows : (app : App) (ws : List Text) (m : ArgMatches) → app ≡ ongq_sql → HasMatchesOf app ws m → rows_of (found_of m) ≡ matches_of ongq_sql ws
same_rows app ws m e has = (subst (λ a. HasMatchesOf a ws m) e has refl).0

taken_target : (app : App) (ws : List Text) (m : ArgMatches) (t : Target) → app ≡ ongq_sql → (is_simple_and_free app ≡ true → fault_of app ws ≡ []) → HasMatchesOf app ws m
    → IsTarget (rows_of (found_of m)) t → IsAsked ws (asks.Sql t)
taken_target app ws m t e none has is = sql t (no_fault app ws e none) (subst (λ (rows : List Row). IsTarget rows t) (same_rows app ws m e has) is) refl

by_sql : (app : App) (ws : List Text) (m : ArgMatches) (a : Asked) → app ≡ ongq_sql → (is_simple_and_free app ≡ true → fault_of app ws ≡ []) → HasMatchesOf app ws m
    → IsSqlFor (rows_of (found_of m)) a → IsAsked ws a
by_sql app ws m asks.Help e none has is = absurd is
by_sql app ws m (asks.Sql t) e none has is = taken_target app ws m t e none has is

pub taken_asked : (app : App) (ws : List Text) (m : ArgMatches) (r : Result Asked WordsRefusal) → app ≡ ongq_sql → (is_simple_and_free app ≡ true → fault_of app ws ≡ []) → HasMatchesOf app ws m
    → IfOk r (IsSqlFor (rows_of (found_of m))) → IfOk r (IsAsked ws)
taken_asked app ws m r e none has is = IfOk-weaker r _ _ (λ a h. by_sql app ws m a e none has h) is

pub taken_wrong : (app : App) (ws : List Text) (m : ArgMatches) → app ≡ ongq_sql → (is_simple_and_free app ≡ true → fault_of app ws ≡ []) → HasMatchesOf app ws m
    → ((t : Target) → ¬ IsTarget (rows_of (found_of m)) t) → IsWrong ws
taken_wrong app ws m e none has other = no_target (no_fault app ws e none) (λ t h. other t (subst (λ (rows : List Row). IsTarget rows t) (sym (same_rows app ws m e has)) h))

-- the error is one that clap has for the words
has_kind : (app : App) (ws : List Text) (x : Error) → app ≡ ongq_sql → (is_simple_and_free app ≡ true → HasKind (fault_of app ws) x) → HasKind (fault_of ongq_sql ws) x
has_kind app ws x e is = subst (λ a. is_simple_and_free a ≡ true → HasKind (fault_of a ws) x) e is refl

by_wrong : (ws : List Text) (x : Error) → HasKind (fault_of ongq_sql ws) x → kind_of x ≢ DisplayHelp → kind_of x ≢ OutOfMemory → IsWrong ws
by_wrong ws x (inl memory) other enough = absurd (enough memory)
by_wrong ws x (inr among) other enough = refused (kind_of x) other among

pub refused_wrong : (app : App) (ws : List Text) (x : Error) → app ≡ ongq_sql → (is_simple_and_free app ≡ true → HasKind (fault_of app ws) x) → kind_of x ≢ DisplayHelp → kind_of x ≢ OutOfMemory → IsWrong ws
refused_wrong app ws x e is = by_wrong ws x (has_kind app ws x e is)
