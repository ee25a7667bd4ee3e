-- The bytes of a source are one script, or have one fault.
use Rattle.std.proofs.Common.{◌≡◌, ◌≤◌, ◌⊎◌, inl, inr, ⊎_elim, ℕ, suc, List, [], ◌∷◌, length, refl, sym, ap, ◌∙◌, subst, arith}
use Rattle.std.proofs.lemmas.Bool.{cases_lt}
use Rattle.og_lex.specs.Faults as lexer
use Rattle.og_lex.specs.Grammar.{IsLexed}
use Rattle.og_lex.specs.declared.refusal.LexRefusal.{LexRefusal}
use Rattle.og_lex.specs.declared.refusal.LexRefusal.TheVariants as lexes
use Rattle.og_lex.specs.declared.token.Token.{Token}
use Rattle.og_parse.specs.Script as parser
use Rattle.og_parse.specs.declared.refusal.ParseRefusal.{ParseRefusal}
use Rattle.og_parse.specs.declared.refusal.ParseRefusal.TheVariants as parses
use Rattle.og_syntax.specs.declared.lexeme.Lexeme.{Lexeme}
use Rattle.og_syntax.specs.declared.tree.Stmt.{Stmt}
use Rattle.og_faults.specs.Stops.{stop_of_lex, stop_of_parse}
use Rattle.og_faults.specs.declared.fault.Fault.{Fault}
use Rattle.og_faults.specs.declared.fault.Fault.TheVariants as faults
use Rattle.og_script.specs.Scripts.{IsScript, IsScriptFault, too_long, no_tokens, no_tree, IsTreeFault, AreTrees, max_source}

-- a source is a script, or has a fault
abbrev pub IsScriptOrNot : List ℕ → Type 0
IsScriptOrNot source = ((stmts : List Stmt) × IsScript source stmts) ⊎ ((fault : Fault) × IsScriptFault source fault)

-- there are tokens or a fault of them, and trees of tokens or a fault of them
pub record Choices : Type 0 where
  pub some_list : (script : List ℕ) → ((tokens : List Token) × IsLexed script tokens) ⊎ ((fault : LexRefusal) × lexer.IsFirstFault script fault)
  pub some_tree : (script : List ℕ) (tokens : List Token) → ((stmts : List Stmt) × parser.IsScript script tokens stmts) ⊎ ((fault : ParseRefusal) × parser.IsFirstFault script tokens fault)

-- tokens are one, trees are one, faults too, and where there are tokens or trees there is no fault of them
pub record Laws : Type 0 where
  pub one_list : (script : List ℕ) (tokens others : List Token) → IsLexed script tokens → IsLexed script others → tokens ≡ others
  pub whole_list : (script : List ℕ) (tokens : List Token) (fault : LexRefusal) → IsLexed script tokens → ¬ lexer.IsFirstFault script fault
  pub one_lex_fault : (script : List ℕ) (fault other : LexRefusal) → lexer.IsFirstFault script fault → lexer.IsFirstFault script other → fault ≡ other
  pub one_tree : (script : List ℕ) (tokens : List Token) (stmts others : List Stmt) → parser.IsScript script tokens stmts → parser.IsScript script tokens others → stmts ≡ others
  pub whole_tree : (script : List ℕ) (tokens : List Token) (stmts : List Stmt) (fault : ParseRefusal) → parser.IsScript script tokens stmts → ¬ parser.IsFirstFault script tokens fault
  pub one_parse_fault : (script : List ℕ) (tokens : List Token) (fault other : ParseRefusal) → parser.IsFirstFault script tokens fault → parser.IsFirstFault script tokens other → fault ≡ other

-- want of memory is the first fault of no tokens
no_parse_memory : (source : List ℕ) (number : ℕ) (pieces : List (List Lexeme)) → ¬ parser.HasFirstFault source number pieces parses.NoMemory
no_parse_memory source number [] none = none
no_parse_memory source number (p ∷ ps) (inl none) = none
no_parse_memory source number (p ∷ ps) (inr (stmt, good, later)) = no_parse_memory source (suc number) ps later

module _ (choices : Choices) where
  -- any bytes are a script, or have a fault
  pub script_or_fault : (source : List ℕ) → IsScriptOrNot source
  script_or_fault source = ⊎_elim (λ long. inr (faults.SourceTooLong, too_long long refl)) of_tokens (cases_lt max_source (length source))
    where
      of_lex : length source ≤ max_source → (refusal : LexRefusal) → lexer.IsFirstFault source refusal → IsScriptOrNot source
      of_lex short (lexes.BadByte n) is = inr (faults.BadByte n, no_tokens short (lexes.BadByte n) is refl)
      of_lex short (lexes.OpenText n) is = inr (faults.OpenText n, no_tokens short (lexes.OpenText n) is refl)
      of_lex short (lexes.NumberRange n) is = inr (faults.NumberRange n, no_tokens short (lexes.NumberRange n) is refl)
      of_lex short lexes.NoMemory (tokens, at, rest, reads, none) = absurd none

      of_parse : length source ≤ max_source → (refusal : ParseRefusal) → IsTreeFault source refusal → IsScriptOrNot source
      of_parse short (parses.Syntax n) is = inr (faults.Syntax n, no_tree short (parses.Syntax n) is refl)
      of_parse short (parses.TooDeep n) is = inr (faults.TooDeep n, no_tree short (parses.TooDeep n) is refl)
      of_parse short (parses.Literal n) is = inr (faults.Literal n, no_tree short (parses.Literal n) is refl)
      of_parse short parses.NoMemory (tokens, lexed, is) = absurd (no_parse_memory source 1 _ is)

      of_trees : length source ≤ max_source → (tokens : List Token) → IsLexed source tokens → IsScriptOrNot source
      of_trees short tokens lexed =
          ⊎_elim (λ tree. inl (tree.0, record { short = short; trees = (tokens, lexed, tree.1) })) (λ fault. of_parse short fault.0 (tokens, lexed, fault.1)) (choices.some_tree source tokens)

      of_tokens : length source ≤ max_source → IsScriptOrNot source
      of_tokens short = ⊎_elim (λ list. of_trees short list.0 list.1) (λ fault. of_lex short fault.0 fault.1) (choices.some_list source)

module _ (laws : Laws) where
  -- a source has one list of trees at most
  one_trees : (source : List ℕ) (xs ys : List Stmt) → AreTrees source xs → AreTrees source ys → xs ≡ ys
  one_trees source xs ys (ts, lexed, tree) (us, other, last) =
      laws.one_tree source ts xs ys tree (subst (λ l. parser.IsScript source l ys) (laws.one_list source us ts other lexed) last)

  -- the trees have one first fault at most
  one_tree_fault : (source : List ℕ) (f g : ParseRefusal) → IsTreeFault source f → IsTreeFault source g → f ≡ g
  one_tree_fault source f g (ts, lexed, fault) (us, other, last) =
      laws.one_parse_fault source ts f g fault (subst (λ l. parser.IsFirstFault source l g) (laws.one_list source us ts other lexed) last)

  -- a source with trees has no fault of them
  no_tree_fault : {A : Type 0} (source : List ℕ) (xs : List Stmt) (f : ParseRefusal) → AreTrees source xs → IsTreeFault source f → A
  no_tree_fault source xs f (ts, lexed, tree) (us, other, fault) =
      absurd (laws.whole_tree source ts xs f tree (subst (λ l. parser.IsFirstFault source l f) (laws.one_list source us ts other lexed) fault))

  -- a source is one script at most
  pub one_script : (source : List ℕ) (xs ys : List Stmt) → IsScript source xs → IsScript source ys → xs ≡ ys
  one_script source xs ys x y = one_trees source xs ys x.trees y.trees

  -- a script has no fault
  pub no_fault : (source : List ℕ) (fault : Fault) (stmts : List Stmt) → IsScript source stmts → IsScriptFault source fault → ⊥
  no_fault source fault stmts is (too_long long e) = omega (arith, long, is.short)
  no_fault source fault stmts is (no_tokens short refusal k e) = laws.whole_list source is.trees.0 refusal is.trees.1 k
  no_fault source fault stmts is (no_tree short refusal k e) = no_tree_fault source stmts refusal is.trees k

  -- a source has one fault at most
  pub one_fault : (source : List ℕ) (a b : Fault) → IsScriptFault source a → IsScriptFault source b → a ≡ b
  one_fault source a b (too_long l1 e1) (too_long l2 e2) = e1 ∙ sym e2
  one_fault source a b (too_long l1 e1) (no_tokens s2 f2 k2 e2) = absurd (omega (arith, l1, s2))
  one_fault source a b (too_long l1 e1) (no_tree s2 f2 k2 e2) = absurd (omega (arith, l1, s2))
  one_fault source a b (no_tokens s1 f1 k1 e1) (too_long l2 e2) = absurd (omega (arith, l2, s1))
  one_fault source a b (no_tokens s1 f1 k1 e1) (no_tokens s2 f2 k2 e2) = cc (sym e1 ∙ ap stop_of_lex (laws.one_lex_fault source f1 f2 k1 k2) ∙ e2)
  one_fault source a b (no_tokens s1 f1 k1 e1) (no_tree s2 f2 k2 e2) = absurd (laws.whole_list source k2.0 f1 k2.1 k1)
  one_fault source a b (no_tree s1 f1 k1 e1) (too_long l2 e2) = absurd (omega (arith, l2, s1))
  one_fault source a b (no_tree s1 f1 k1 e1) (no_tokens s2 f2 k2 e2) = absurd (laws.whole_list source k1.0 f2 k1.1 k2)
  one_fault source a b (no_tree s1 f1 k1 e1) (no_tree s2 f2 k2 e2) = cc (sym e1 ∙ ap stop_of_parse (one_tree_fault source f1 f2 k1 k2) ∙ e2)
