use Rattle.std.proofs.Common.{◌+◌, ◌∙◌, ◌∷◌, [], List, ap, arith, length, length-append, subst}
use Rattle.std.specs.Prelude.{All}
use Rattle.table_core.specs.declared.cell.Cell.{Cell}
use Rattle.filter_zones.specs.Zone.{CoversRow, IsZone, column_of, zone_at}
use Rattle.inspect_notes.proofs.Whole.{whole}
use Rattle.table_core.specs.Fitting.{dict_at}
use Rattle.inspect_notes.specs.Profiles.{IsProfileAt}
use Rattle.inspect_notes.specs.Written.{IsReadable}
use Rattle.inspect_notes.proofs.Pushed.{each_pushed}
use Rattle.inspect_notes.proofs.profiling.profile_of.Goals as goal

pub loop-column-preserved : goal.loop-column-preserved
loop-column-preserved c =
    let l = c.args.loaded.now in
    let ps = c.loop-column.profiles.items in
    let p = c.profile_at.result in
    let x = c.loop-column.column in
    rw c.in_ok-push.ensures.items (record {
      count = length-append ps (p ∷ []) ∙ ap (λ n. n + 1) c.loop-column.invariant.count;
      each = each_pushed (IsProfileAt l) ps p x c.loop-column.invariant.count c.loop-column.invariant.each c.profile_at.ensures.profile;
      readable = each_pushed (λ k q. IsReadable (dict_at l.dicts.items k) q) ps p x c.loop-column.invariant.count c.loop-column.invariant.readable c.profile_at.ensures.readable;
    })

-- the zones are over all rows
pub profile_at-requires-clause-zone : goal.profile_at-requires-clause-zone
profile_at-requires-clause-zone c =
    let rows = c.args.loaded.now.table.rows in
    let x = c.loop-column.column in
    subst (λ (part : List (List Cell)). IsZone (column_of x part) (zone_at c.zones_of-zones.result.zones x)) (whole rows c.len.result (omega (arith, c.len.ensures)))
    (c.zones_of-zones.ensures.of_columns x (omega (arith, c.loop-column-test.true, c.len-columns.ensures, ap length c.schema.ensures)))

pub profile_at-requires-clause-covers : goal.profile_at-requires-clause-covers
profile_at-requires-clause-covers c =
    let rows = c.args.loaded.now.table.rows in
    subst (All (CoversRow c.zones_of-zones.result.zones)) (whole rows c.len.result (omega (arith, c.len.ensures))) c.zones_of-zones.ensures.covers
