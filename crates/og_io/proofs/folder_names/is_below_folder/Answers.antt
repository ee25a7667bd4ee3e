use Rattle.std.proofs.Common.{rules, ◌≡◌, ◌∙◌, ap, sym, not, ◌&&◌}
use Rattle.std.specs.List.{list_all, slice_split}
use Rattle.std.proofs.lemmas.Iterator.Search.{all_from_yields_List}
use Rattle.std.proofs.lemmas.Iterator.Splits.{YieldsList-from_slice_split}
use Rattle.og_io.specs.BelowFolder as spec
use Rattle.og_io.proofs.folder_names.is_below_folder.Goals as goal

pub returns-then-not-contains : goal.returns-then-not-contains
returns-then-not-contains c =
    let parts : c.all.result ≡ list_all spec.is_part (slice_split spec.is_slash c.args.name.now) =
    all_from_yields_List spec.is_part _ _ c.all.result c.all.ensures.ran
    (YieldsList-from_slice_split _ spec.is_slash c.args.name.now c.split.ensures.rest c.split.ensures.done c.split.ensures.closure (λ x b q called. search rules))
    (λ x b q called. search rules) in
    parts ∙ sym (ap (λ b. not b && list_all spec.is_part (slice_split spec.is_slash c.args.name.now)) (sym c.contains.ensures.value ∙ c.if-not-contains.true))
