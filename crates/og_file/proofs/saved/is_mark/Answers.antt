use Rattle.std.proofs.Common.{◌≡◌, ◌∙◌, ◌∷◌, [], codes, ap, sym}
use Rattle.std.proofs.lemmas.Slice.Eq.{bytes_eq-Decides}
use Rattle.csv.specs.Records.{fields_of}
use Rattle.og_file.proofs.SavedLemmas.{alone, not_alone}
use Rattle.og_file.proofs.saved.is_mark.Goals as goal

pub returns-in-Some : goal.returns-in-Some
returns-in-Some c =
    let field = c.in-Some.field.now in
    let same = bytes_eq-Decides field c.as_slice.result.now in
    let only : fields_of c.args.fields.now ≡ field ∷ [] = alone (fields_of c.args.fields.now) field (sym c.len.ensures ∙ c.if-len-ne1.false) (sym c.in-Some.ensures.value) in (
      λ e. only ∙ ap (λ f. f ∷ []) (same.0 (sym c.eq.ensures ∙ e) ∙ c.as_slice.ensures),
      λ marked. let is : field ≡ codes "ongq:2" = cc (sym only ∙ marked) in c.eq.ensures ∙ same.1 (is ∙ sym c.as_slice.ensures),
    )

pub returns-in-None : goal.returns-in-None
returns-in-None c = absurd (not_alone (fields_of c.args.fields.now) (sym c.len.ensures ∙ c.if-len-ne1.false) (sym c.in-None.ensures.value))
