use Rattle.std.proofs.Common.{◌≡◌, ◌+◌, ◌%◌, ◌&&◌, ◌∙◌, true, false, length, refl, sym, ap, arith, eq-eqb}
use Rattle.std.proofs.lemmas.Bool.{ne_eqb, le-ltb}
use Rattle.std.specs.Prelude.{nat_lt}
use Rattle.table_sets.specs.Sets.{has}
use Rattle.filter_zones.proofs.Sets.{members_are}
use Rattle.batch_plan.specs.Deal.{place, is_dealt}
use Rattle.batch_plan.proofs.Dealt.{none_below, grown, as_before, more_placed, not_placed, all_shared}
use Rattle.batch_plan.proofs.dealing.deal.Goals as goal
use Rattle.batch_plan.proofs.dealing.deal.Goals.{then-has, then-place-parts, else-place-parts, else-has}

pub loop-c-init : goal.loop-c-init
loop-c-init c = record { place = sym (ap length (none_below (has c.args.needed.now))); few = omega arith; dealt = λ x. rw (c.empty-dealt.ensures, le-ltb x 0 (omega arith)) refl }

pub loop-c-preserved : goal.loop-c-preserved
loop-c-preserved c =
    let n = c.loop-c.c in
    let needed = c.args.needed.now in
    let mine = is_dealt needed c.args.parts c.args.part in
    let before = c.loop-c.invariant in
    elim c.if-has.branch [
      | then-has w ↦
          let so : has needed n ≡ true = sym c.has.ensures ∙ w.if-has.true in
          let at : c.if-has.place ≡ place needed (n + 1) = w.place-is ∙ ap (λ k. k + 1) before.place ∙ sym (more_placed needed n so) in
          record {
            place = at;
            few = omega (arith, w.place-is, before.few);
            dealt = λ x. rw w.dealt-is (elim w.if-place-parts.branch [
              | then-place-parts v ↦
                  rw (v.dealt-is, v.insert.ensures x, before.dealt x) (grown mine n x (rw (so, eq-eqb (place needed n % c.args.parts) c.args.part (rw (← before.place) v.if-place-parts.true)) refl))
              | else-place-parts v ↦
                  rw (v.dealt-is, before.dealt x) (as_before mine n x (rw (so, ne_eqb (place needed n % c.args.parts) c.args.part (rw (← before.place) v.if-place-parts.false)) refl))
            ]);
          }
      | else-has w ↦
          let not : has needed n ≡ false = sym c.has.ensures ∙ w.if-has.false in
          record {
            place = w.place-is ∙ before.place ∙ sym (not_placed needed n not);
            few = omega (arith, w.place-is, before.few);
            dealt = λ x. rw (w.dealt-is, before.dealt x) (as_before mine n x (rw not refl));
          }
    ]

pub returns-clause-dealt : goal.returns-clause-dealt
returns-clause-dealt c =
    let mine = is_dealt c.args.needed.now c.args.parts c.args.part in
    let end : c.loop-c.c ≡ 1024 = omega (arith, c.loop-c-test.false, c.loop-c.auto.c-end) in
    members_are c.loop-c.dealt 1024 1024 mine c.len-dealt.ensures.members (λ x. c.loop-c.invariant.dealt x ∙ ap (λ n. nat_lt x n && mine x) end)

pub returns-clause-size : goal.returns-clause-size
returns-clause-size c = ap length (returns-clause-dealt c) ∙ all_shared c.args.needed.now c.args.parts (omega (arith, c.requires.part)) c.len-needed.ensures.members c.args.part c.requires.part
