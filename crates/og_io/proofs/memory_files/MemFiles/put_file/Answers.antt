use Rattle.std.proofs.Common.{ap, subst, ◌∙◌, ◌++◌, Some}
use Rattle.std.proofs.lemmas.Result.{err_from_is_err_and}
use Rattle.std.specs.Cmp.Lexicographic.{slice_cmp}
use Rattle.std.specs.Ordering.{nat_cmp}
use Rattle.std.specs.BTreeMap.{Updates}
use Rattle.og_io.specs.Folders.{folder_of, IsSame, IsSameBut}
use Rattle.og_io.proofs.Stored.{files, put_seen, others_stay, all_stay}
use Rattle.og_io.proofs.memory_files.MemFiles.put_file.Goals as goal

pub returns-clause-written : goal.returns-clause-written
returns-clause-written c =
    put_seen c.args.name.now c.extend_from_slice.new.self c.self.inside.files c.insert.new.self
    (subst (λ k. Updates (slice_cmp nat_cmp) c.self.inside.files c.insert.new.self k (Some c.extend_from_slice.new.self)) c.in_ok-copy.ensures c.in_ok-insert.ensures.updates)
    ∙ ap Some (c.in_ok-extend_from_slice.ensures.items ∙ ap (λ xs. xs ++ c.args.bytes.now) c.new-file.ensures.items)

pub returns-clause-others : goal.returns-clause-others
returns-clause-others c =
    subst (λ m. IsSameBut c.args.name.now (folder_of m.files) (folder_of (files c.insert.new.self))) c.self.view_is
    (others_stay c.args.name.now c.extend_from_slice.new.self c.self.inside.files c.insert.new.self
    (subst (λ k. Updates (slice_cmp nat_cmp) c.self.inside.files c.insert.new.self k (Some c.extend_from_slice.new.self)) c.in_ok-copy.ensures c.in_ok-insert.ensures.updates))

pub returns-in_err-insert-clause-refused : goal.returns-in_err-insert-clause-refused
returns-in_err-insert-clause-refused c =
    let q = err_from_is_err_and c.from_residual-in_err-insert.result c.from_residual-in_err-insert.ensures.1 in
    rw (q.1) (subst (λ m. IsSame (folder_of m.files) (folder_of (files c.insert.new.self))) c.self.view_is (all_stay c.self.inside.files c.insert.new.self c.in_err-insert.ensures.err))
