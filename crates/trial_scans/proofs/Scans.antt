-- One scan over several steps.
use Rattle.std.proofs.Common.{◌≡◌, ℕ, Bool, true, false, refl, sym, ◌∙◌, subst}
use Rattle.std.specs.Bool.{OnTrue}
use Rattle.atomic_table.specs.Seated.{TableId}
use Rattle.frame_pool.specs.Berths.{PoolView}
use Rattle.scan_story.specs.declared.origin.Start.{Start}
use Rattle.cscan.specs.declared.scan.CScan.{CScan}
use Rattle.cscan.specs.declared.station.Station.{Station}
use Rattle.cscan.specs.Scans.{IsOver, IsSameScan}

-- what a true answer says
pub on_true : (b : Bool) (A : Type 0) → b ≡ true → OnTrue b A → A
on_true true A e a = a
on_true false A e a = absurd cc

module _ {S C P D T K : Type 0} where
  pub same_itself : (a : CScan S C P D T K) → IsSameScan a a
  same_itself a = record { station = refl; number = refl; baton = refl; pool = refl; shape = refl; query = refl }

  pub same_then : (a b c : CScan S C P D T K) → IsSameScan a b → IsSameScan b c → IsSameScan a c
  same_then a b c p q = record {
    station = q.station ∙ p.station;
    number = q.number ∙ p.number;
    baton = q.baton ∙ p.baton;
    pool = q.pool ∙ p.pool;
    shape = q.shape ∙ p.shape;
    query = q.query ∙ p.query;
  }

module _ {S C P D : Type 0} where
  -- what is over of a scan is over of the station, baton, pool and query that it began with
  pub over_left : (o : Start) (id was : TableId) (pool lay : PoolView) (q r : ℕ) (x y : Station S C P D) → x ≡ y → was ≡ id → lay ≡ pool → r ≡ q → IsOver o was lay r y → IsOver o id pool q x
  over_left o id was pool lay q r x y left baton frames query over =
      subst (λ (s : Station S C P D). IsOver o id pool q s) (sym left)
      (subst (λ (n : ℕ). IsOver o id pool n y) query (subst (λ (l : PoolView). IsOver o id l r y) frames (subst (λ (t : TableId). IsOver o t lay r y) baton over)))
