use Rattle.std.proofs.Common.{◌≡◌, ◌<◌, ◌+◌, ◌-◌, ℕ, length, refl, inl, inr, sym, ap, ◌∙◌, arith, take, drop}
use Rattle.std.specs.Prelude.{◌&&◌, nat_lt, option_copied, []}
use Rattle.std.proofs.lemmas.Bool.{cases_lt, lt-ltb, le-ltb}
use Rattle.std.proofs.lemmas.List.{get_or-take, get_or-drop, length-take-le, length-drop}
use Rattle.table_sets.specs.Sets.{has}
use Rattle.table_sets.specs.declared.limits.TheConstants.{MOST_CHUNKS}
use Rattle.filter_zones.specs.Possible.{is_needed, chunk_at}
use Rattle.filter_zones.proofs.Law.{none_outside}
use Rattle.filter_zones.proofs.Sets.{members_are}
use Rattle.filter_zones.proofs.pruning.needed.Goals as goal

pub loop-from-preserved : goal.loop-from-preserved
loop-from-preserved c =
    let zones = c.args.zones.now in
    let from = c.loop-from.from in
    let to = c.min-to.result in (
      omega (arith, c.min-to.ensures),
      λ n. elim (cases_lt n from) [
        | inl before ↦ rw (c.insert_bits.ensures.kept n before, c.loop-from.invariant.1 n, lt-ltb n from before, lt-ltb n to (omega (arith, before, c.min-to.ensures))) refl
        | inr after ↦ elim (cases_lt n to) [
          | inl inside ↦
              let k = n - from in
              let at : from + k ≡ n = omega (arith, after) in
              let low : k < to - from = omega (arith, inside, after) in
              let block : chunk_at (take (to - from) (drop from zones)) k ≡ chunk_at zones n = get_or-take (to - from) (drop from zones) k (record { zones = [] }) low ∙ get_or-drop from zones k (record { zones = [] }) ∙ ap (chunk_at zones) at in
              let whole : length (take (to - from) (drop from zones)) ≡ to - from = length-take-le (to - from) (drop from zones) (omega (arith, length-drop from zones)) in
              let bit = c.needed_bits-bits.ensures k (omega (arith, low, whole)) in
              rw (lt-ltb n to inside, ← at) (c.insert_bits.ensures.put k low ∙ bit ∙ ap (is_needed (option_copied c.args.cond)) (block ∙ ap (chunk_at zones) (sym at)))
          | inr past ↦ rw (c.insert_bits.ensures.none n (omega (arith, past, after)), le-ltb n to past) refl
        ]
      ],
    )

each : (c : goal.After-len-count) → (k : ℕ) → has c.loop-from.found k ≡ (nat_lt k (length c.args.zones.now) && is_needed (option_copied c.args.cond) (chunk_at c.args.zones.now k))
each c k =
    let whole : c.loop-from.from ≡ length c.args.zones.now = omega (arith, c.loop-from.invariant.0) in
    c.loop-from.invariant.1 k ∙ ap (λ n. nat_lt k n && is_needed (option_copied c.args.cond) (chunk_at c.args.zones.now k)) whole

pub returns-clause-chunks : goal.returns-clause-chunks
returns-clause-chunks c = members_are c.loop-from.found MOST_CHUNKS (length c.args.zones.now) (λ k. is_needed (option_copied c.args.cond) (chunk_at c.args.zones.now k)) c.len-count.ensures.members (each c)

pub returns-clause-outside : goal.returns-clause-outside
returns-clause-outside c = none_outside (option_copied c.args.cond) c.args.zones.now c.loop-from.found c.requires.fits (each c)
