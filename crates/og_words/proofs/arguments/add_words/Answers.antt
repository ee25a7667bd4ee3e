use Rattle.std.proofs.Common.{◌++◌, ◌∷◌, [], map, string_bytes, sym, ap, append_assoc, ◌∙◌}
use Rattle.std.proofs.lemmas.List.{append-nil}
use Rattle.og_words.proofs.ArgumentLemmas.{first_gone, next_one, none_left}
use Rattle.og_words.proofs.arguments.add_words.Goals as goal

pub words-init : goal.words-init
words-init c = ap (λ ws. c.args.words.now ++ map string_bytes ws) (first_gone c.next.result c.args.args c.next.new.self c.next.ensures.cases)

pub words-preserved : goal.words-preserved
words-preserved c =
    ap (λ ws. ws ++ map string_bytes c.next-in-words.new.self.rest.items) (c.in_ok-add.ensures.ok ∙ ap (λ w. c.words.words ++ w ∷ []) c.as_str.ensures.value)
    ∙ append_assoc c.words.words (string_bytes c.in-Some.word ∷ []) (map string_bytes c.next-in-words.new.self.rest.items)
    ∙ ap (λ ws. c.words.words ++ map string_bytes ws) (sym (next_one c.in-Some.word c.words.args c.next-in-words.new.self c.in-Some.ensures.cases))
    ∙ c.words.invariant

pub returns : goal.returns
returns c =
    sym (append-nil c.words.words)
    ∙ ap (λ ws. c.words.words ++ map string_bytes ws) (sym (none_left c.words.args c.next-in-words.new.self c.in_default.ensures.cases))
    ∙ c.words.invariant
