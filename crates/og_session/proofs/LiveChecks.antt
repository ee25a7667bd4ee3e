-- The query of a live result stays one where it is checked.
use Rattle.std.proofs.Common.{◌≡◌, ◌∙◌, ◌++◌, List, [], ◌∷◌, Ok, length, map, sym, ap, subst}
use Rattle.std.specs.List.{AllByRecursion}
use Rattle.std.proofs.lemmas.List.Elements.{All-from_recursion, recursion_from_All}
use Rattle.og_syntax.specs.declared.tree.CoreText.{CoreText}
use Rattle.og_syntax.specs.declared.tree.QueryText.{QueryText}
use Rattle.og_syntax.specs.declared.tree.RestText.{RestText}
use Rattle.og_query.specs.Fits.{Schemas}
use Rattle.og_query.specs.declared.query.Core.{Core}
use Rattle.og_query.specs.declared.query.Query.{Query}
use Rattle.og_query.specs.declared.query.Rest.{Rest}
use Rattle.og_query.specs.Kinds.{kinds_of}
use Rattle.og_query.specs.declared.condition.Cond.TheVariants as c
use Rattle.og_check.specs.Cores.{columns_of, core_of, exprs_of, from_of, items_of, query_of, rest_of, schema_of, sees, semi_of}
use Rattle.og_check.specs.Expressions.{conds_of}
use Rattle.og_check.specs.Limits.{max_tables}
use Rattle.og_check.specs.Steps.{◌>>=◌, ◌>>◌, pure, in_order, agree, within}
use Rattle.og_check.proofs.OkLemmas.{ok_same, where_ok}
use Rattle.og_view.specs.Views.{IsLiveQuery, IsLiveRest}
use Rattle.og_script.specs.LiveTexts.{IsLiveRestText, IsLiveText}

module _ (schemas : Schemas) where
  -- a SELECT without EXISTS has none after its checks
  live_core : (text : CoreText) (core : Core) → text.semis ≡ [] → core_of schemas text ≡ Ok core → core.semis ≡ []
  live_core text core none g =
      where_ok (within max_tables (length text.tables))
      (λ _. do
        from ← from_of schemas text.tables
        conds ← conds_of (sees from.items) text.cond
        semis ← in_order (map (semi_of schemas from.items) text.semis)
        items ← items_of from.items text.items
        schema ← schema_of (columns_of items)
        pure (record { tables = from.tables; cond = c.And (from.conds ++ conds); semis = semis; items = exprs_of items; schema = schema }))
      core (λ _ _.
      where_ok (from_of schemas text.tables)
      (λ from. do
        conds ← conds_of (sees from.items) text.cond
        semis ← in_order (map (semi_of schemas from.items) text.semis)
        items ← items_of from.items text.items
        schema ← schema_of (columns_of items)
        pure (record { tables = from.tables; cond = c.And (from.conds ++ conds); semis = semis; items = exprs_of items; schema = schema }))
      core (λ from _.
      where_ok (conds_of (sees from.items) text.cond)
      (λ conds. do
        semis ← in_order (map (semi_of schemas from.items) text.semis)
        items ← items_of from.items text.items
        schema ← schema_of (columns_of items)
        pure (record { tables = from.tables; cond = c.And (from.conds ++ conds); semis = semis; items = exprs_of items; schema = schema }))
      core (λ conds _.
      where_ok (in_order (map (semi_of schemas from.items) text.semis))
      (λ semis. do
        items ← items_of from.items text.items
        schema ← schema_of (columns_of items)
        pure (record { tables = from.tables; cond = c.And (from.conds ++ conds); semis = semis; items = exprs_of items; schema = schema }))
      core (λ semis s.
      where_ok (items_of from.items text.items)
      (λ items. do
        schema ← schema_of (columns_of items)
        pure (record { tables = from.tables; cond = c.And (from.conds ++ conds); semis = semis; items = exprs_of items; schema = schema }))
      core (λ items _.
      where_ok (schema_of (columns_of items))
      (λ schema. pure (record { tables = from.tables; cond = c.And (from.conds ++ conds); semis = semis; items = exprs_of items; schema = schema }))
      core (λ schema _ e.
      ap (λ core. core.semis) (sym (ok_same (record { tables = from.tables; cond = c.And (from.conds ++ conds); semis = semis; items = exprs_of items; schema = schema }) core e))
      ∙ sym (ok_same [] semis (sym (ap (λ ss. in_order (map (semi_of schemas from.items) ss)) none) ∙ s)))))))) g

  -- nor has a further one, which is added by the same operator
  live_rest : (first : Core) (text : RestText) (rest : Rest) → IsLiveRestText text → rest_of schemas first text ≡ Ok rest → IsLiveRest rest
  live_rest first text rest live g =
      where_ok (core_of schemas text.core) (λ core. do agree (kinds_of core.schema) (kinds_of first.schema); pure (record { op = text.op; core = core })) rest (λ core h.
      where_ok (agree (kinds_of core.schema) (kinds_of first.schema)) (λ _. pure (record { op = text.op; core = core })) rest (λ u k e.
      subst IsLiveRest (ok_same (record { op = text.op; core = core }) rest e) (live.op, live_core text.core core live.semis h))) g

  -- the query of a live result
  pub live_query : (text : QueryText) (query : Query) → IsLiveText text → query_of schemas text ≡ Ok query → IsLiveQuery query
  live_query text query live g =
      where_ok (core_of schemas text.first) (λ first. do rest ← in_order (map (rest_of schemas first) text.rest); pure (record { first = first; rest = rest })) query (λ first h.
      where_ok (in_order (map (rest_of schemas first) text.rest)) (λ rest. pure (record { first = first; rest = rest })) query (λ rest k e.
      subst IsLiveQuery (ok_same (record { first = first; rest = rest }) query e)
      (record {
        first = live_core text.first first live.first h;
        rest = All-from_recursion IsLiveRest rest (in_turn first text.rest rest (recursion_from_All IsLiveRestText text.rest live.rest) k);
      }))) g
    where
      in_turn : (first : Core) (texts : List RestText) (rests : List Rest) → AllByRecursion IsLiveRestText texts → in_order (map (rest_of schemas first) texts) ≡ Ok rests → AllByRecursion IsLiveRest rests
      in_turn first [] rests live k = subst (AllByRecursion IsLiveRest) (ok_same [] rests k) tt
      in_turn first (text ∷ texts) rests live k =
          where_ok (rest_of schemas first text) (λ rest. do rests ← in_order (map (rest_of schemas first) texts); pure (rest ∷ rests)) rests (λ rest h.
          where_ok (in_order (map (rest_of schemas first) texts)) (λ more. pure (rest ∷ more)) rests (λ more m e.
          subst (AllByRecursion IsLiveRest) (ok_same (rest ∷ more) rests e) (live_rest first text rest live.0 h, in_turn first texts more live.1 m))) k
