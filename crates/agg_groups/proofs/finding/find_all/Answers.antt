use Rattle.std.proofs.Common.{◌≡◌, ◌∙◌, ◌==◌, ◌<◌, ℕ, List, [], true, length, map, set, get_or, sym, ap, subst, arith, inl, inr}
use Rattle.std.specs.Int.{bit_at}
use Rattle.std.specs.Prelude.{◌||◌, Some, is_some}
use Rattle.std.proofs.lemmas.Bool.{cases_Bool, cases_lt, eqb-true, eqb-false}
use Rattle.std.proofs.lemmas.List.{get_or-set_same, get_or-set_other, length-set}
use Rattle.table_core.specs.declared.cell.Cell.{Cell}
use Rattle.row_blocks.specs.Blocks.{row_at}
use Rattle.query_meaning.specs.Cells.{codes}
use Rattle.query_meaning.specs.Meaning.{key_of}
use Rattle.agg_groups.specs.Table.{AreSound, Placed, has_key, place_at}
use Rattle.agg_groups.proofs.Grown.{grown_more, named_more, or_assoc, place_kept, still_known}
use Rattle.agg_groups.proofs.Keys.{has-push}
use Rattle.agg_groups.proofs.Order.{same_key}
use Rattle.agg_groups.proofs.Placing.{chosen-at, first_chosen, one_more}
use Rattle.agg_groups.proofs.Refusals.{on_err}
use Rattle.agg_groups.proofs.Seen.{place_there, sound_place}
use Rattle.agg_groups.proofs.Stepping.{none_between, row_in}
use Rattle.agg_groups.proofs.finding.find_all.Goals as goal

pub loop-row-preserved : goal.loop-row-preserved
loop-row-preserved c =
    let items = c.args.items.now in
    let b = c.args.block.now in
    let word = c.args.word in
    let i : ℕ = c.in-Some.row in
    let before = c.loop-row.invariant in
    let next = c.in-Some.ensures in
    let none = none_between b word c.loop-row.from i next.from next.first in
    let start = c.args.table.now in
    let old = c.loop-row.table in
    let new = c.place_of.new.table in
    let place = c.in_ok-place.place in
    let places = c.loop-row.places in
    let f = key_of codes c.args.keys.now in
    let key = f (row_at b i) in
    let ok = c.in_ok-place.ensures.ok in
    let few : i < length places = omega (arith, next.below, before.long) in
    let set' : (bit_at word i == 1) ≡ true = ap (λ k. k == 1) next.chosen in
    let named : (q : List Cell) → is_some (place_at old.places q) ≡ (is_some (place_at start.places q) || has_key (map f (first_chosen b word i)) q) =
    λ q. before.named q ∙ ap (λ rows. is_some (place_at start.places q) || has_key (map f rows) q) (sym none) in
    let earlier : (j : ℕ) → j < i → bit_at word j ≡ 1 → place_at old.places (f (row_at b j)) ≡ Some (get_or places j 0) =
    λ j low is. elim (cases_lt j c.loop-row.from) [ inl lt ↦ before.found j lt is | inr not ↦ absurd (let clear = next.first j (omega (arith, not)) low in omega (arith, is, clear)) ] in
    record {
      within = (let low = row_in b.count word i c.requires.below next.chosen in omega (arith, low));
      found = λ j low is. elim (cases_Bool (j == i)) [
        | inl t ↦ subst (λ k. place_at new.places (f (row_at b k)) ≡ Some (get_or (set places i place) k 0)) (sym (eqb-true j i t))
            (place_there items key place old new ok ∙ ap Some (sym (get_or-set_same places i place 0 few)))
        | inr u ↦ place_kept items key place old new ok (f (row_at b j)) (get_or places j 0) (earlier j (omega (arith, low, eqb-false j i u)) is)
            ∙ ap Some (sym (get_or-set_other places i j place 0 (eqb-false j i u)))
      ];
      named = λ q. named_more items key place old new ok q ∙ ap (λ c. c || same_key q key) (named q)
          ∙ or_assoc (is_some (place_at start.places q)) (has_key (map f (first_chosen b word i)) q) (same_key q key)
          ∙ ap (λ c. is_some (place_at start.places q) || c) (sym (has-push [] f (first_chosen b word i) (row_at b i) q)
          ∙ ap (λ rows. has_key (map f rows) q) (sym (one_more b word i set')));
      grown = grown_more items key place start old new c.in_ok-place.ensures.ready.placed before.grown ok;
      ready = c.in_ok-place.ensures.ready;
      sound = λ n s. sound_place n items key place old new ok (before.sound n s);
      long = length-set places i place ∙ before.long;
    }

pub returns-in_err-place-clause-unknown : goal.returns-in_err-place-clause-unknown
returns-in_err-place-clause-unknown c =
    let b = c.args.block.now in
    let word = c.args.word in
    let i : ℕ = c.in-Some.row in
    let f = key_of codes c.args.keys.now in
    let start = c.args.table.now in
    let low : i < b.count = row_in b.count word i c.requires.below c.in-Some.ensures.chosen in
    on_err c.from_residual.result (λ all. still_known c.args.items.now start c.loop-row.table c.loop-row.invariant.grown (f (row_at b i))
    (chosen-at b word (λ row. is_some (place_at start.places (f row)) ≡ true) all i low c.in-Some.ensures.chosen) c.in_err-place.ensures.unknown)

pub returns-in_err-place-clause-sound : goal.returns-in_err-place-clause-sound
returns-in_err-place-clause-sound c = λ n s.
    subst (λ (t : Placed). AreSound n (length c.args.items.now) t.values) (sym c.in_err-place.ensures.err) (c.loop-row.invariant.sound n s)

pub returns-clause-found : goal.returns-clause-found
returns-clause-found c = λ i low is. elim (cases_lt i c.loop-row.from) [
  | inl lt ↦ c.loop-row.invariant.found i lt is
  | inr not ↦ absurd (let clear = c.in_default.ensures.none i (omega (arith, not)) in omega (arith, is, clear))
]

pub returns-clause-named : goal.returns-clause-named
returns-clause-named c = λ q.
    let b = c.args.block.now in
    let whole = none_between b c.args.word c.loop-row.from b.count c.loop-row.invariant.within (λ i from to. c.in_default.ensures.none i from) in
    c.loop-row.invariant.named q ∙ ap (λ rows. is_some (place_at c.args.table.now.places q) || has_key (map (key_of codes c.args.keys.now) rows) q) (sym whole)
