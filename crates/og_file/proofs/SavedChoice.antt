-- Any bytes are a saved file, or no saved file for a reason.
use Rattle.std.proofs.Common.{◌≡◌, ◌≢◌, ◌⊎◌, ◌+◌, ◌++◌, ◌∷◌, [], ℕ, List, length, refl, sym, subst, inl, inr}
use Rattle.og_base.specs.Ranges.{Range}
use Rattle.og_value.specs.declared.schema.Column.{Column}
use Rattle.og_value.specs.declared.value.Value.{Value}
use Rattle.og_file.specs.Records.{Record, AreAll, Each}
use Rattle.og_file.specs.SavedFile.{Pair, Version, AreSchema, IsDays, IsHeader, IsNoEnd, IsNoRow, IsRow, IsSavedFault, IsSavedFile, IsVersionOne, IsVersionTwo, mark, one, two}
use Rattle.og_file.specs.SavedParts.{IsEnd}
use Rattle.og_file.specs.TableFile.{AreCells}
use Rattle.og_file.specs.declared.refusal.FileRefusal.{FileRefusal}
use Rattle.og_file.specs.declared.refusal.FileRefusal.TheVariants as refused
use Rattle.og_file.proofs.AllBytes.{records_of_all_bytes}
use Rattle.og_base.proofs.Choices.{Or, both, like, number}
use Rattle.og_file.proofs.HeaderChoice.{a_header, a_schema, an_end_record, with_last}
use Rattle.og_file.proofs.NoFaults.{behind_two}
use Rattle.og_file.proofs.SetChoice.{a_days}
use Rattle.og_file.proofs.TableChoice.{HasBad, a_row, begins, begins_to, same_list, values_or_bad}

a_pair : (version : Version) (cs : List Column) (fs : Record) → Or ((pair : Pair) × IsRow version cs fs pair)
a_pair version cs fs =
    like
    (λ h. ((h.3.0.0, h.3.1.0), (h.0, h.1, h.2, h.3.0.1, h.3.1.1)))
    (λ h. (h.1.0, h.1.1, h.1.2, ((h.0.0, h.1.3), (h.0.1, h.1.4))))
    (with_last (λ cells field. ((values : List Value) × AreCells cs cells values) × ((days : List Range) × IsDays version field days)) (λ cells field. both (a_row cs cells) (a_days version field)) fs)

abbrev Chosen : List ℕ → Type 0
Chosen bytes =
    ((columns : List Column) × (pairs : List Pair) × IsSavedFile bytes columns pairs) ⊎ ((e : FileRefusal) × (e ≢ refused.NoMemory) × IsSavedFault bytes e)

-- all is of its form
counted : (bytes : List ℕ) (cs : List Column) (ps : List Pair) (said : ℕ) → IsVersionOne bytes cs ps said ⊎ IsVersionTwo bytes cs ps said → Or (said ≡ length ps) → Chosen bytes
counted bytes cs ps said (inl is) (inl same) = inl (cs, ps, inl (subst (λ n. IsVersionOne bytes cs ps n) same is))
counted bytes cs ps said (inr is) (inl same) = inl (cs, ps, inr (subst (λ n. IsVersionTwo bytes cs ps n) same is))
counted bytes cs ps said is (inr differ) = inr (refused.RowCount said (length ps), (λ e. cc e), (cs, ps, is, refl, differ))

-- behind a header of version 1
behind_header : (bytes : List ℕ) (header : Record) (records : List Record) (cs : List Column) (said : ℕ) → AreAll bytes (header ∷ records) → IsHeader header cs said
    → ((ps : List Pair) × Each (IsRow one cs) records ps) ⊎ HasBad (IsRow one cs) records → Chosen bytes
behind_header bytes header records cs said all has (inl rows) = counted bytes cs rows.0 said (inl (header, records, all, has, rows.1)) (number said (length rows.0))
behind_header bytes header records cs said all has (inr bad) =
    let begun = begins_to bytes (header ∷ []) bad.before bad.fields bad.after (subst (λ l. AreAll bytes (header ∷ l)) bad.split all) in
    inr (refused.Cell (length bad.before + 2), (λ e. cc e), inl (header, bad.before, bad.fields, cs, said, bad.values, begun, has, bad.are, bad.none, refl))

-- the first record that is no row of version 2, and those behind it
at_end : (bytes : List ℕ) (header : Record) (before : List Record) (fields : Record) (after : List Record) (cs : List Column) (ps : List Pair)
    → AreAll bytes (mark ∷ header ∷ before ++ fields ∷ after) → AreSchema header cs → Each (IsRow two cs) before ps → IsNoRow two cs fields → Or ((said : ℕ) × IsEnd fields said) → Chosen bytes
at_end bytes header before fields [] cs ps all has are none (inl end) =
    counted bytes cs ps end.0 (inr (header, before, end.1.0, subst (λ f. AreAll bytes (mark ∷ header ∷ before ++ f ∷ [])) end.1.1 all, has, are, end.1.2)) (number end.0 (length ps))
at_end bytes header before fields [] cs ps all has are none (inr out) =
    let silent : IsNoEnd bytes (mark ∷ header ∷ before) fields = inl (λ field said e is. out (said, (field, e, is))) in
    inr (refused.Cell (length before + 3), (λ e. cc e), inr (inl (header, before, fields, cs, ps, begins_to bytes (mark ∷ header ∷ []) before fields [] all, has, are, none, silent, refl)))
at_end bytes header before fields (next ∷ after) cs ps all has are none end =
    let further = begins bytes (mark ∷ header ∷ before ++ fields ∷ next ∷ []) after (subst (λ l. AreAll bytes (mark ∷ header ∷ l)) (sym (behind_two before fields next after)) all) in
    inr (refused.Cell (length before + 3), (λ e. cc e), inr (inl (header, before, fields, cs, ps, begins_to bytes (mark ∷ header ∷ []) before fields (next ∷ after) all, has, are, none, inr (next, further), refl)))

-- behind the mark and the columns
behind_columns : (bytes : List ℕ) (header : Record) (records : List Record) (cs : List Column) → AreAll bytes (mark ∷ header ∷ records) → AreSchema header cs
    → ((ps : List Pair) × Each (IsRow two cs) records ps) ⊎ HasBad (IsRow two cs) records → Chosen bytes
behind_columns bytes header records cs all has (inl rows) = inr (refused.Cell (length records + 3), (λ e. cc e), inr (inr (header, records, cs, rows.0, all, has, rows.1, refl)))
behind_columns bytes header records cs all has (inr bad) =
    at_end bytes header bad.before bad.fields bad.after cs bad.values (subst (λ l. AreAll bytes (mark ∷ header ∷ l)) bad.split all) has bad.are bad.none (an_end_record bad.fields)

pub each_saved_file_or_fault : (bytes : List ℕ)
    → ((columns : List Column) × (pairs : List Pair) × IsSavedFile bytes columns pairs) ⊎ ((e : FileRefusal) × (e ≢ refused.NoMemory) × IsSavedFault bytes e)
each_saved_file_or_fault bytes = let all = records_of_all_bytes bytes in by all.0 all.1
  where
    first : (header : Record) (records : List Record) → AreAll bytes (header ∷ records) → (header ≢ mark) → Or ((cs : List Column) × (said : ℕ) × IsHeader header cs said) → Chosen bytes
    first header records all other (inl has) = behind_header bytes header records has.0 has.1 all has.2 (values_or_bad (IsRow one has.0) (a_pair one has.0) records)
    first header records all other (inr out) = inr (refused.Header, (λ e. cc e), inr (inl (header, begins bytes (header ∷ []) records all, other, λ cs said is. out (cs, said, is))))

    second : (header : Record) (records : List Record) → AreAll bytes (mark ∷ header ∷ records) → Or ((cs : List Column) × AreSchema header cs) → Chosen bytes
    second header records all (inl has) = behind_columns bytes header records has.0 all has.1 (values_or_bad (IsRow two has.0) (a_pair two has.0) records)
    second header records all (inr out) = inr (refused.Header, (λ e. cc e), inr (inr (inr (header, begins bytes (mark ∷ header ∷ []) records all, λ cs is. out (cs, is)))))

    marked : (records : List Record) → AreAll bytes (mark ∷ records) → Chosen bytes
    marked [] all = inr (refused.Header, (λ e. cc e), inr (inr (inl all)))
    marked (header ∷ records) all = second header records all (a_schema header)

    any : (header : Record) (records : List Record) → AreAll bytes (header ∷ records) → Or (header ≡ mark) → Chosen bytes
    any header records all (inl same) = marked records (subst (λ r. AreAll bytes (r ∷ records)) same all)
    any header records all (inr other) = first header records all other (a_header header)

    by : (records : List Record) → AreAll bytes records → Chosen bytes
    by [] all = inr (refused.Header, (λ e. cc e), inl all)
    by (header ∷ records) all = any header records all (same_list header mark)
