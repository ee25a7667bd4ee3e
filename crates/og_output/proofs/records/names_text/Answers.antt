use Rattle.std.proofs.Common.{◌≡◌, ◌∙◌, ◌++◌, ◌∷◌, ◌<◌, ℕ, List, [], ap, ap₂, sym, take, get_or, length, codes, rules}
use Rattle.csv.specs.Writing.{default_writer, row_text}
use Rattle.og_value.specs.declared.kind.What.TheVariants as what
use Rattle.og_db.specs.Database.{Relation}
use Rattle.og_db.specs.Held.{Held}
use Rattle.og_output.specs.Records.{names_text, what_word}
use Rattle.og_output.proofs.RecordLemmas.{records-more, records-one, what_at}
use Rattle.og_output.proofs.records.names_text.Goals as goal

-- the record before those of the names
abbrev head : List (List ℕ)
head = codes "name" ∷ codes "what" ∷ []

-- any entry
abbrev any : Held Relation
any = record { name = []; what = what.Table; columns = []; rows = [] }

pub names-init : goal.names-init
names-init c = c.in_ok-push_two.ensures ∙ ap (λ t. t ++ row_text default_writer head) c.new-text.ensures.items ∙ sym (records-one head)

pub names-preserved : goal.names-preserved
names-preserved c =
    let held = get_or c.args.db.now c.names.i any in
    let name = c.name_at-name.ensures any in
    let within : c.names.i < length c.args.db.now = search rules in
    let known = what_at c.args.db.now c.names.i any c.name_at-name.result.now within c.names_differ.ensures name in
    let what : c.in-Some.what ≡ held.what = cc (c.in-Some.is, c.what.ensures, known) in
    let before = names_text (take c.names.i c.args.db.now) in
    let more = records-more (head ∷ []) (λ h. h.name ∷ what_word h.what ∷ []) c.args.db.now c.names.i any within in
    c.in_ok-push_two-2.ensures ∙ ap₂ (λ n w. c.names.text.items ++ row_text default_writer (n ∷ w ∷ [])) (c.bytes.ensures ∙ name) (c.what_word.ensures ∙ ap what_word what)
    ∙ ap (λ t. t ++ row_text default_writer (held.name ∷ what_word held.what ∷ [])) c.names.invariant ∙ sym more

pub unreachable-requires : goal.unreachable-requires
unreachable-requires c =
    let name = c.name_at-name.ensures any in
    let within : c.names.i < length c.args.db.now = search rules in
    let known = what_at c.args.db.now c.names.i any c.name_at-name.result.now within c.names_differ.ensures name in
    cc (c.what.ensures, known, c.in_default.is)
