-- Pieces, the statements of a script and its first fault.
use Rattle.std.proofs.Common.{◌≡◌, ◌⊎◌, inl, inr, ◌++◌, ◌+◌, ◌==◌, ◌≤◌, ◌<◌, ℕ, suc, Bool, true, false, if◌then◌else◌, List, [], ◌∷◌, drop, length, Option, Some, None, Err, refl, sym, ap, ◌∙◌, subst, append_assoc, append-nil, arith}
use Rattle.std.proofs.lemmas.List.{drop-map}
use Rattle.std.proofs.lemmas.Option.{same_Some}
use Rattle.og_lex.specs.declared.token.Token.{Token}
use Rattle.og_syntax.specs.declared.lexeme.Sort.TheVariants as k
use Rattle.og_syntax.specs.declared.lexeme.Lexeme.{Lexeme}
use Rattle.og_syntax.specs.declared.tree.Stmt.{Stmt}
use Rattle.og_syntax.specs.declared.refusal.Refusal.{Refusal}
use Rattle.og_syntax.specs.declared.refusal.Refusal.TheVariants as why_not
use Rattle.og_syntax.specs.Lexemes.{same_sort}
use Rattle.og_syntax.specs.Reading.{Outcome}
use Rattle.og_parse.specs.declared.refusal.ParseRefusal.{ParseRefusal}
use Rattle.og_parse.specs.declared.refusal.ParseRefusal.TheVariants as r
use Rattle.og_parse.specs.Depth.{is_too_deep}
use Rattle.og_parse.specs.Pieces.{piece_of}
use Rattle.og_parse.specs.Statements.{IsWhole, IsStatement}
use Rattle.og_parse.specs.StatementReader.{statement, all_from, whole}
use Rattle.og_parse.specs.Tokens.{lexeme_of, lexemes_of}
use Rattle.og_parse.specs.Whole.{GivesAll}
use Rattle.og_parse.specs.Script.{glued, pieces, IsGood, IsNone, HasFault, AreGood, HasFirstFault, OrNoMemory}
use Rattle.og_parse.proofs.StatementRules.{exact-statement}
use Rattle.og_parse.proofs.Lenient.{lenient}

-- ---- one piece

-- what is read of all lexemes is their statement
pub whole_sound : (script : List ℕ) (strict : Bool) (ts : List Lexeme) (x : Stmt) → whole script strict ts ≡ Some x → IsWhole script strict ts x
unfolding whole
whole_sound script strict ts x e = go (statement script strict ts) refl e
  where
    go : (o : Outcome Stmt) → statement script strict ts ≡ o → all_from o ≡ Some x → IsWhole script strict ts x
    go (Some (y, [])) h e = subst (λ z. IsStatement script strict ts z []) (same_Some y x e) ((exact-statement script strict).sound ts y [] h)
    go (Some (y, t ∷ rest)) h e = cc
    go None h e = cc

-- the statement of all lexemes is read
pub whole_complete : (script : List ℕ) (strict : Bool) (ts : List Lexeme) (x : Stmt) → IsWhole script strict ts x → whole script strict ts ≡ Some x
unfolding whole
whole_complete script strict ts x h = ap all_from ((exact-statement script strict).complete ts x [] h refl)

-- where nothing is read there is no statement
pub none_read : (script : List ℕ) (strict : Bool) (ts : List Lexeme) → whole script strict ts ≡ None → IsNone script strict ts
none_read script strict ts e x h = let s : None ≡ Some x = sym e ∙ whole_complete script strict ts x h in cc

-- the same where a function refused
pub no_whole : (script : List ℕ) (strict : Bool) (ts : List Lexeme) (why : Refusal) → why ≡ why_not.Syntax → GivesAll {A = Stmt} (Err why) (whole script strict ts) → IsNone script strict ts
no_whole script strict ts why_not.Syntax e g = none_read script strict ts g
no_whole script strict ts why_not.NoMemory e g = cc

-- lexemes are one statement at most
pub one_whole : (script : List ℕ) (strict : Bool) (ts : List Lexeme) (x y : Stmt) → IsWhole script strict ts x → IsWhole script strict ts y → x ≡ y
one_whole script strict ts x y h j = same_Some x y (sym (whole_complete script strict ts x h) ∙ whole_complete script strict ts y j)

-- a piece is a statement, or none
some_or_none : (script : List ℕ) (strict : Bool) (ts : List Lexeme) → ((x : Stmt) × IsWhole script strict ts x) ⊎ IsNone script strict ts
some_or_none script strict ts = go (whole script strict ts) refl
  where
    go : (o : Option Stmt) → whole script strict ts ≡ o → ((x : Stmt) × IsWhole script strict ts x) ⊎ IsNone script strict ts
    go (Some x) e = inl (x, whole_sound script strict ts x e)
    go None e = inr (none_read script strict ts e)

-- a piece is good, or has a fault
good_or_fault : (script : List ℕ) (number : ℕ) (ts : List Lexeme) → ((x : Stmt) × IsGood script ts x) ⊎ ((fault : ParseRefusal) × HasFault script number ts fault)
good_or_fault script number ts = go (is_too_deep ts) refl (some_or_none script true ts) (some_or_none script false ts)
  where
    go : (deep : Bool) → is_too_deep ts ≡ deep → ((x : Stmt) × IsWhole script true ts x) ⊎ IsNone script true ts → ((x : Stmt) × IsWhole script false ts x) ⊎ IsNone script false ts
        → ((x : Stmt) × IsGood script ts x) ⊎ ((fault : ParseRefusal) × HasFault script number ts fault)
    go true e a b = inr (r.TooDeep number, (refl, e))
    go false e (inl a) b = inl (a.0, (e, a.1))
    go false e (inr a) (inl b) = inr (r.Literal number, (refl, e, a, b.0, b.1))
    go false e (inr a) (inr b) = inr (r.Syntax number, (refl, e, b))

-- a test is not true and false
both_ways : {A : Type 0} (b : Bool) → b ≡ true → b ≡ false → A
both_ways true e f = cc
both_ways false e f = cc

-- a good piece has no fault
pub good_apart : (script : List ℕ) (number : ℕ) (ts : List Lexeme) (x : Stmt) (fault : ParseRefusal) → IsGood script ts x → HasFault script number ts fault → ⊥
good_apart script number ts x (r.TooDeep at) g h = both_ways (is_too_deep ts) h.1 g.0
good_apart script number ts x (r.Syntax at) g h = let y = lenient script ts x [] g.1 in h.2 y.0 y.1
good_apart script number ts x (r.Literal at) g h = h.2 x g.1
good_apart script number ts x r.NoMemory g h = h

-- a piece has one fault at most
one_fault_of : (script : List ℕ) (number : ℕ) (ts : List Lexeme) (fault other : ParseRefusal) → HasFault script number ts fault → HasFault script number ts other → fault ≡ other
one_fault_of script number ts (r.TooDeep a) (r.TooDeep b) h j = ap (λ n. r.TooDeep n) (h.0 ∙ sym j.0)
one_fault_of script number ts (r.TooDeep a) (r.Syntax b) h j = both_ways (is_too_deep ts) h.1 j.1
one_fault_of script number ts (r.TooDeep a) (r.Literal b) h j = both_ways (is_too_deep ts) h.1 j.1
one_fault_of script number ts (r.TooDeep a) r.NoMemory h j = absurd j
one_fault_of script number ts (r.Syntax a) (r.TooDeep b) h j = both_ways (is_too_deep ts) j.1 h.1
one_fault_of script number ts (r.Syntax a) (r.Syntax b) h j = ap (λ n. r.Syntax n) (h.0 ∙ sym j.0)
one_fault_of script number ts (r.Syntax a) (r.Literal b) h j = absurd (h.2 j.3 j.4)
one_fault_of script number ts (r.Syntax a) r.NoMemory h j = absurd j
one_fault_of script number ts (r.Literal a) (r.TooDeep b) h j = both_ways (is_too_deep ts) j.1 h.1
one_fault_of script number ts (r.Literal a) (r.Syntax b) h j = absurd (j.2 h.3 h.4)
one_fault_of script number ts (r.Literal a) (r.Literal b) h j = ap (λ n. r.Literal n) (h.0 ∙ sym j.0)
one_fault_of script number ts (r.Literal a) r.NoMemory h j = absurd j
one_fault_of script number ts r.NoMemory other h j = absurd h

-- ---- all pieces

-- pieces are one list of statements at most
pub one_list : (script : List ℕ) (ps : List (List Lexeme)) (xs ys : List Stmt) → AreGood script ps xs → AreGood script ps ys → xs ≡ ys
one_list script [] [] [] h j = refl
one_list script [] [] (y ∷ ys) h j = absurd j
one_list script [] (x ∷ xs) ys h j = absurd h
one_list script (p ∷ ps) [] ys h j = absurd h
one_list script (p ∷ ps) (x ∷ xs) [] h j = absurd j
one_list script (p ∷ ps) (x ∷ xs) (y ∷ ys) h j = ap (λ z. z ∷ xs) (one_whole script true p x y h.0.1 j.0.1) ∙ ap (λ zs. y ∷ zs) (one_list script ps xs ys h.1 j.1)

-- all pieces are good, or there is a first fault
pub good_or_first_fault : (script : List ℕ) (number : ℕ) (ps : List (List Lexeme)) → ((xs : List Stmt) × AreGood script ps xs) ⊎ ((fault : ParseRefusal) × HasFirstFault script number ps fault)
good_or_first_fault script number [] = inl ([], tt)
good_or_first_fault script number (p ∷ ps) = go (good_or_fault script number p) (good_or_first_fault script (suc number) ps)
  where
    go : ((x : Stmt) × IsGood script p x) ⊎ ((fault : ParseRefusal) × HasFault script number p fault) → ((xs : List Stmt) × AreGood script ps xs) ⊎ ((fault : ParseRefusal) × HasFirstFault script (suc number) ps fault)
        → ((xs : List Stmt) × AreGood script (p ∷ ps) xs) ⊎ ((fault : ParseRefusal) × HasFirstFault script number (p ∷ ps) fault)
    go (inl a) (inl b) = inl (a.0 ∷ b.0, (a.1, b.1))
    go (inl a) (inr b) = inr (b.0, inr (a.0, a.1, b.1))
    go (inr a) b = inr (a.0, inl a.1)

-- not both
pub good_or_faulty : (script : List ℕ) (number : ℕ) (ps : List (List Lexeme)) (xs : List Stmt) (fault : ParseRefusal) → AreGood script ps xs → HasFirstFault script number ps fault → ⊥
good_or_faulty script number [] xs fault h j = j
good_or_faulty script number (p ∷ ps) [] fault h j = h
good_or_faulty script number (p ∷ ps) (x ∷ xs) fault h (inl a) = good_apart script number p x fault h.0 a
good_or_faulty script number (p ∷ ps) (x ∷ xs) fault h (inr a) = good_or_faulty script (suc number) ps xs fault h.1 a.2

-- pieces have one first fault at most
pub one_first_fault : (script : List ℕ) (number : ℕ) (ps : List (List Lexeme)) (fault other : ParseRefusal) → HasFirstFault script number ps fault → HasFirstFault script number ps other → fault ≡ other
one_first_fault script number [] fault other h j = absurd h
one_first_fault script number (p ∷ ps) fault other (inl a) (inl b) = one_fault_of script number p fault other a b
one_first_fault script number (p ∷ ps) fault other (inl a) (inr b) = absurd (good_apart script number p b.0 fault b.1 a)
one_first_fault script number (p ∷ ps) fault other (inr a) (inl b) = absurd (good_apart script number p a.0 other a.1 b)
one_first_fault script number (p ∷ ps) fault other (inr a) (inr b) = one_first_fault script (suc number) ps fault other a.2 b.2

-- ---- cutting the first piece

-- one lexeme is one piece
one_piece : (b : Bool) (t : Lexeme) → (if b then (t ∷ []) ∷ [] else glued t []) ≡ (if b then t ∷ [] else t ∷ []) ∷ pieces (drop (length (if b then t ∷ [] else t ∷ [])) (t ∷ []))
one_piece true t = refl
one_piece false t = refl

-- the first piece with one more lexeme before it
longer_piece : (b : Bool) (t : Lexeme) (ts : List Lexeme) → pieces ts ≡ piece_of ts ∷ pieces (drop (length (piece_of ts)) ts)
    → (if b then (t ∷ []) ∷ pieces ts else glued t (pieces ts)) ≡ (if b then t ∷ [] else t ∷ piece_of ts) ∷ pieces (drop (length (if b then t ∷ [] else t ∷ piece_of ts)) (t ∷ ts))
longer_piece true t ts e = refl
longer_piece false t ts e = ap (glued t) e

-- the first piece is what was said
first_piece : (t : Lexeme) (ts : List Lexeme) → pieces (t ∷ ts) ≡ piece_of (t ∷ ts) ∷ pieces (drop (length (piece_of (t ∷ ts))) (t ∷ ts))
first_piece t [] = one_piece (same_sort t.sort k.Semicolon) t
first_piece t (u ∷ us) = longer_piece (same_sort t.sort k.Semicolon) t (u ∷ us) (first_piece u us)

-- it has a lexeme
some_piece : (t : Lexeme) (ts : List Lexeme) → 1 ≤ length (piece_of (t ∷ ts))
some_piece t ts = go (same_sort t.sort k.Semicolon)
  where
    go : (b : Bool) → 1 ≤ length (if b then t ∷ [] else t ∷ piece_of ts)
    go true = omega arith
    go false = omega arith

-- ---- the loop over pieces

-- what the rest of the pieces is makes out what all of them are
pub record Leads (script : List ℕ) (first : ℕ) (all : List (List Lexeme)) (xs : List Stmt) (number : ℕ) (rest : List (List Lexeme)) : Type 0 where
  pub good : (ys : List Stmt) → AreGood script rest ys → AreGood script all (xs ++ ys)
  pub faulty : (fault : ParseRefusal) → HasFirstFault script number rest fault → HasFirstFault script first all fault

-- at first all pieces are left
pub leads_first : (script : List ℕ) (first : ℕ) (all : List (List Lexeme)) → Leads script first all [] first all
leads_first script first all = record { good = λ ys h. h; faulty = λ fault h. h }

-- one more piece is good
pub leads_on : (script : List ℕ) (first : ℕ) (all rest left : List (List Lexeme)) (xs : List Stmt) (number : ℕ) (p : List Lexeme) (x : Stmt)
    → rest ≡ p ∷ left → IsGood script p x → Leads script first all xs number rest → Leads script first all (xs ++ x ∷ []) (suc number) left
leads_on script first all rest left xs number p x e g l = record {
  good = λ ys h. subst (AreGood script all) (sym (append_assoc xs (x ∷ []) ys)) (l.good (x ∷ ys) (subst (λ ps. AreGood script ps (x ∷ ys)) (sym e) (g, h)));
  faulty = λ fault h. l.faulty fault (subst (λ ps. HasFirstFault script number ps fault) (sym e) (inr (x, g, h)));
}

-- no piece is left
pub leads_all : (script : List ℕ) (first : ℕ) (all rest : List (List Lexeme)) (xs : List Stmt) (number : ℕ) → rest ≡ [] → Leads script first all xs number rest → AreGood script all xs
leads_all script first all rest xs number e l = subst (AreGood script all) (append-nil xs) (l.good [] (subst (λ ps. AreGood script ps []) (sym e) tt))

-- a piece has a fault
pub leads_fault : (script : List ℕ) (first : ℕ) (all rest left : List (List Lexeme)) (xs : List Stmt) (number : ℕ) (p : List Lexeme) (fault : ParseRefusal)
    → rest ≡ p ∷ left → OrNoMemory (HasFault script number p) fault → Leads script first all xs number rest → OrNoMemory (HasFirstFault script first all) fault
leads_fault script first all rest left xs number p (r.TooDeep at) e h l = l.faulty (r.TooDeep at) (subst (λ ps. HasFirstFault script number ps (r.TooDeep at)) (sym e) (inl h))
leads_fault script first all rest left xs number p (r.Syntax at) e h l = l.faulty (r.Syntax at) (subst (λ ps. HasFirstFault script number ps (r.Syntax at)) (sym e) (inl h))
leads_fault script first all rest left xs number p (r.Literal at) e h l = l.faulty (r.Literal at) (subst (λ ps. HasFirstFault script number ps (r.Literal at)) (sym e) (inl h))
leads_fault script first all rest left xs number p r.NoMemory e h l = tt

-- where tokens are left their first piece is cut off
pub cut_by : (script : List ℕ) (rest left : List Token) (p : List Lexeme) (n : ℕ) → (length rest == 0) ≡ false → p ≡ piece_of (lexemes_of script rest) → n ≡ length p → left ≡ drop n rest
    → pieces (lexemes_of script rest) ≡ p ∷ pieces (lexemes_of script left)
cut_by script [] left p n e front len back = cc
cut_by script (t ∷ ts) left p n e front len back =
    first_piece (lexeme_of script t) (lexemes_of script ts)
    ∙ ap (λ q. q ∷ pieces (drop (length q) (lexemes_of script (t ∷ ts)))) (sym front)
    ∙ ap (λ m. p ∷ pieces (drop m (lexemes_of script (t ∷ ts)))) (sym len)
    ∙ ap (λ us. p ∷ pieces us) (drop-map (lexeme_of script) n (t ∷ ts))
    ∙ ap (λ us. p ∷ pieces (lexemes_of script us)) (sym back)

-- and it has a lexeme
pub some_len : (script : List ℕ) (rest : List Token) (p : List Lexeme) → (length rest == 0) ≡ false → p ≡ piece_of (lexemes_of script rest) → 1 ≤ length p
some_len script [] p e front = cc
some_len script (t ∷ ts) p e front = subst (λ q. 1 ≤ length q) (sym front) (some_piece (lexeme_of script t) (lexemes_of script ts))

-- a number above another is not 0
not_zero : (n : ℕ) → (suc n == 0) ≡ true → ⊥
not_zero n e = grind (arith, e)

-- without tokens there are no pieces
pub no_pieces : (script : List ℕ) (ts : List Token) → (length ts == 0) ≡ true → pieces (lexemes_of script ts) ≡ []
no_pieces script [] e = refl
no_pieces script (t ∷ ts) e = absurd (not_zero (length ts) e)

-- so fewer tokens are left
pub shorter : (m n left rest : ℕ) → 1 ≤ m → n ≡ m → left + n ≡ rest → left < rest
shorter m n left rest some same back = omega (arith, some, same, back)

-- and the number of the statement stays small
pub counted : (m n left rest number first all : ℕ) → 1 ≤ m → n ≡ m → left + n ≡ rest → number + rest ≤ first + all → (number + 1) + left ≤ first + all
counted m n left rest number first all some same back before = omega (arith, some, same, back, before)

-- one more piece of tokens that were split is good
pub one_more_piece : (script : List ℕ) (first : ℕ) (all : List (List Lexeme)) (rest left : List Token) (p : List Lexeme) (n : ℕ) (xs now : List Stmt) (number : ℕ) (x : Stmt)
    → (length rest == 0) ≡ false → p ≡ piece_of (lexemes_of script rest) → n ≡ length p → left ≡ drop n rest → now ≡ xs ++ x ∷ [] → IsGood script p x → Leads script first all xs number (pieces (lexemes_of script rest))
    → Leads script first all now (number + 1) (pieces (lexemes_of script left))
one_more_piece script first all rest left p n xs now number x some front len back e g l =
    let same : suc number ≡ number + 1 = omega arith in
    subst (λ zs. Leads script first all zs (number + 1) (pieces (lexemes_of script left))) (sym e)
    (subst (λ n. Leads script first all (xs ++ x ∷ []) n (pieces (lexemes_of script left))) same
    (leads_on script first all (pieces (lexemes_of script rest)) (pieces (lexemes_of script left)) xs number p x (cut_by script rest left p n some front len back) g l))

-- a piece of tokens that are left has a fault
pub faulty_piece : (script : List ℕ) (first : ℕ) (all : List (List Lexeme)) (rest : List Token) (p : List Lexeme) (xs : List Stmt) (number : ℕ) (fault : ParseRefusal)
    → (length rest == 0) ≡ false → p ≡ piece_of (lexemes_of script rest) → OrNoMemory (HasFault script number p) fault → Leads script first all xs number (pieces (lexemes_of script rest)) → OrNoMemory (HasFirstFault script first all) fault
faulty_piece script first all rest p xs number fault some front h l =
    leads_fault script first all (pieces (lexemes_of script rest)) (pieces (lexemes_of script (drop (length p) rest))) xs number p fault (cut_by script rest (drop (length p) rest) p (length p) some front refl refl) h l
