-- What was put into a sink piece after piece, and how much of the whole it is where one of them is refused.
use Rattle.std.proofs.Common.{◌≡◌, ◌++◌, ◌∷◌, ◌∙◌, ◌+◌, ◌<◌, ◌≤◌, ℕ, List, [], Option, Result, Ok, Err, Vec, get_or, length, map, slice_range, take, drop, refl, sym, ap, ap₂, subst, append_assoc}
use Rattle.std.specs.Io.KnownBytes.{Appends}
use Rattle.std.proofs.KnownBytes.{Appends-nil, Appends-trans}
use Rattle.std.specs.List.{flat_map}
use Rattle.std.proofs.lemmas.List.{append-nil, drop_more, take-append-drop, take_more, map-append}
use Rattle.std.proofs.lemmas.Grind.{flat_map-append}
use Rattle.std.proofs.lemmas.List.Folds.{drop_split}
use Rattle.std.proofs.lemmas.List.Concat.{flat_map-cons}
use Rattle.std.specs.declared.alloc.Global.{Global}
use Rattle.csv.specs.Writing.{default_writer, row_text}
use denote.Ref.{Bor}
use Rattle.og_base.specs.Told.{AppendsFront}
use Rattle.og_io.specs.declared.sink.PutRefusal.{PutRefusal}
use Rattle.og_io.specs.declared.sink.PutRefusal.TheVariants as puts
use Rattle.og_par.specs.Phase.{MadeOfEach}
use Rattle.og_value.specs.Cells.{fixed_text}
use Rattle.og_value.specs.declared.schema.Column.{Column}
use Rattle.og_query.specs.Queries.{Fixed}
use Rattle.og_output.specs.Records.{layout, records}
use Rattle.og_output.specs.Puts.{IsPut}

-- the records of the rows
abbrev pub rows_text : List Fixed → List ℕ
rows_text rows = records (map (map fixed_text) rows)

-- records one after the other
records-append : (xs ys : List (List (List ℕ))) → records (xs ++ ys) ≡ records xs ++ records ys
unfolding records
records-append xs ys = flat_map-append (row_text default_writer) xs ys

pub records-none : records [] ≡ []
unfolding records
records-none = refl

pub rows_text-append : (xs ys : List Fixed) → rows_text (xs ++ ys) ≡ rows_text xs ++ rows_text ys
rows_text-append xs ys = ap records (map-append (map fixed_text) xs ys) ∙ records-append (map (map fixed_text) xs) (map (map fixed_text) ys)

-- a layout is its first record and those of its rows
pub layout-parts : (columns : List Column) (rows : List Fixed) → layout columns rows ≡ records (map (λ column. column.name) columns ∷ []) ++ rows_text rows
layout-parts columns rows = records-append (map (λ column. column.name) columns ∷ []) (map (map fixed_text) rows)

-- the texts of blocks of rows, one after the other, are the text of the rows
pub texts_of : (blocks : List (Bor (List Fixed))) (texts : List (Vec ℕ Global)) → MadeOfEach (λ block made. flat_map (λ text. text.items) made ≡ rows_text block.now) blocks texts
    → flat_map (λ text. text.items) texts ≡ rows_text (flat_map (λ b. b.now) blocks)
texts_of [] texts made = ap (flat_map (λ text. text.items)) made ∙ sym records-none
texts_of (b ∷ blocks) texts made =
    ap (flat_map (λ text. text.items)) made.4 ∙ flat_map-append (λ text. text.items) made.0 made.1 ∙ ap₂ (λ xs ys. xs ++ ys) made.2 (texts_of blocks made.1 made.3)
    ∙ sym (rows_text-append b.now (flat_map (λ c. c.now) blocks)) ∙ ap rows_text (sym (flat_map-cons (λ c. c.now) b blocks))

-- what has nothing has no parts
front_none : (xs ys : List ℕ) → xs ++ ys ≡ [] → xs ≡ []
front_none [] ys e = refl
front_none (x ∷ xs) ys e = cc e

back_none : (xs ys : List ℕ) → xs ++ ys ≡ [] → ys ≡ []
back_none [] ys e = e
back_none (x ∷ xs) ys e = cc e

-- nothing was put yet of a piece
pub none_of : (old : Option (List ℕ)) (piece : List ℕ) → AppendsFront old old piece
none_of old piece = ([], (piece, refl), Appends-nil old)

-- a front after what was put before it
front_after : (old mid new : Option (List ℕ)) (before piece whole : List ℕ) → whole ≡ before ++ piece → Appends old mid before → AppendsFront mid new piece → AppendsFront old new whole
front_after old mid new before piece whole is appended (front, (rest, e), more) =
    (before ++ front, (rest, is ∙ ap (λ t. before ++ t) e ∙ sym (append_assoc before front rest)), Appends-trans old mid new before front appended more)

-- a front of a front
front_within : (old new : Option (List ℕ)) (piece after whole : List ℕ) → whole ≡ piece ++ after → AppendsFront old new piece → AppendsFront old new whole
front_within old new piece after whole is (front, (rest, e), appended) = (front, (rest ++ after, is ∙ ap (λ t. t ++ after) e ∙ append_assoc front rest after), appended)

-- the last piece, after those before it
pub put_after : (old mid new : Option (List ℕ)) (before piece whole : List ℕ) (r : Result (Unit {0}) PutRefusal) → whole ≡ before ++ piece → Appends old mid before → IsPut mid new piece r → IsPut old new whole r
put_after old mid new before piece whole (Ok done) is appended put = subst (Appends old new) (sym is) (Appends-trans old mid new before piece appended put)
put_after old mid new before piece whole (Err puts.Failed) is appended put = (front_after old mid new before piece whole is appended put.0, λ e. put.1 (back_none before piece (sym is ∙ e)))
put_after old mid new before piece whole (Err puts.NoMemory) is appended put = front_after old mid new before piece whole is appended put

-- a first piece that was refused
pub put_within : (old new : Option (List ℕ)) (piece after whole : List ℕ) (refusal : PutRefusal) → whole ≡ piece ++ after → IsPut old new piece (Err refusal) → IsPut old new whole (Err refusal)
put_within old new piece after whole puts.Failed is put = (front_within old new piece after whole is put.0, λ e. put.1 (front_none piece after (sym is ∙ e)))
put_within old new piece after whole puts.NoMemory is put = front_within old new piece after whole is put

-- the rows of the blocks from a place on are those of some blocks and of the blocks behind
pub rows_of_blocks : (blocks : List (Bor (List Fixed))) (i j : ℕ) → i ≤ j → flat_map (λ b. b.now) (drop i blocks) ≡ flat_map (λ b. b.now) (slice_range blocks i j) ++ flat_map (λ b. b.now) (drop j blocks)
rows_of_blocks blocks i j h =
    let shown : Bor (List Fixed) → List Fixed = λ b. b.now in
    ap (flat_map shown) (drop_split blocks i j h) ∙ flat_map-append shown (slice_range blocks i j) (drop j blocks)

-- the rows up to the rest were put
pub record ArePutUpTo (old now : Option (List ℕ)) (all rest : List Fixed) : Type 0 where
  pub before : List Fixed
  pub whole : all ≡ before ++ rest
  pub written : Appends old now (rows_text before)

-- none yet
pub none_put : (old : Option (List ℕ)) (all : List Fixed) → ArePutUpTo old old all all
none_put old all = record { before = []; whole = refl; written = subst (Appends old old) (sym records-none) (Appends-nil old) }

module _ (old mid new : Option (List ℕ)) (all rest block later : List Fixed) (parts : rest ≡ block ++ later) (up : ArePutUpTo old mid all rest) where
  -- one more block
  pub block_put : Appends mid new (rows_text block) → ArePutUpTo old new all later
  block_put put = record {
    before = up.before ++ block;
    whole = up.whole ∙ ap (λ xs. up.before ++ xs) parts ∙ sym (append_assoc up.before block later);
    written = subst (Appends old new) (sym (rows_text-append up.before block)) (Appends-trans old mid new (rows_text up.before) (rows_text block) up.written put);
  }

  -- a block that was refused
  pub block_refused : (refusal : PutRefusal) → IsPut mid new (rows_text block) (Err refusal) → IsPut old new (rows_text all) (Err refusal)
  block_refused refusal put =
      put_after old mid new (rows_text up.before) (rows_text rest) (rows_text all) (Err refusal) (ap rows_text up.whole ∙ rows_text-append up.before rest) up.written
      (put_within mid new (rows_text block) (rows_text later) (rows_text rest) refusal (ap rows_text parts ∙ rows_text-append block later) put)

-- a list of which each has a text, put one after the other: those before this one were put
module _ {A : Type 0} (text : A → List ℕ) (old mid new : Option (List ℕ)) (xs : List A) (i : ℕ) (x : A) (within : i < length xs) (is : x ≡ get_or xs i x)
    (up : Appends old mid (flat_map text (take i xs))) where
  -- one more
  pub one_put : Appends mid new (text x) → Appends old new (flat_map text (take (i + 1) xs))
  one_put put =
      subst (Appends old new)
      (sym (ap (flat_map text) (take_more xs i x within) ∙ flat_map-append text (take i xs) (get_or xs i x ∷ []) ∙ ap (λ t. flat_map text (take i xs) ++ t) (append-nil (text (get_or xs i x)) ∙ ap text (sym is))))
      (Appends-trans old mid new (flat_map text (take i xs)) (text x) up put)

  -- one that was refused
  pub one_refused : (refusal : PutRefusal) → IsPut mid new (text x) (Err refusal) → IsPut old new (flat_map text xs) (Err refusal)
  one_refused refusal put =
      put_after old mid new (flat_map text (take i xs)) (flat_map text (drop i xs)) (flat_map text xs) (Err refusal)
      (ap (flat_map text) (sym (take-append-drop i xs)) ∙ flat_map-append text (take i xs) (drop i xs)) up
      (put_within mid new (text x) (flat_map text (drop (i + 1) xs)) (flat_map text (drop i xs)) refusal (ap (flat_map text) (drop_more xs i x within ∙ ap (λ y. y ∷ drop (i + 1) xs) (sym is))) put)
