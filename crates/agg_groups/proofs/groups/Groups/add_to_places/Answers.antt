use Rattle.std.proofs.Common.{◌+◌, sym, ap, subst, List, ℕ, length, length-append, get_or, map, All, arith}
use Rattle.std.specs.Prelude.{Contains, count_ones}
use Rattle.row_blocks.specs.Blocks.{row_at}
use Rattle.query_meaning.specs.declared.item.Item.{Item}
use Rattle.agg_groups.specs.Blocks.{chosen_in}
use Rattle.query_meaning.specs.Cells.{codes}
use Rattle.query_meaning.specs.Meaning.{key_of}
use Rattle.agg_groups.specs.Groups.{Kept, KnowsAll, Stands}
use Rattle.agg_groups.specs.Table.{AddsRows, AreFound, AreSound, HasGrown, HasNamed, IsReady, names, seen}
use Rattle.agg_groups.proofs.Columns.{few-chosen, ones-block}
use Rattle.agg_groups.proofs.Grown.{ready_on, same_places}
use Rattle.agg_groups.proofs.Placing.{groups_rows, known_all}
use Rattle.agg_groups.proofs.Seen.{placed_below}
use Rattle.agg_groups.proofs.groups.Groups.add_to_places.Goals as goal

pub invariant_of-self : goal.invariant_of-self
invariant_of-self c =
    let n = c.self.inside.rows in
    let before = c.self.invariant in
    let found = c.places_in_block.ensures in
    let new = c.places_in_block.new.table in
    let last = c.places_in_block.new.last in
    record {
      few = before.few;
      short = before.short;
      ready = subst (λ (ks : List ℕ). IsReady (length ks) last.key.items last.place last.met.items new) c.deref.ensures.value found.ready;
      sound = subst (λ (is : List Item). AreSound n (length is) new.values) c.as_slice-items.ensures.value
          (found.sound n (subst (λ (is : List Item). AreSound n (length is) c.self.inside.table.values) (sym c.as_slice-items.ensures.value) before.sound));
    }

-- keys that are known have places
pub returns-in_err-places_in_block-clause-free : goal.returns-in_err-places_in_block-clause-free
returns-in_err-places_in_block-clause-free c = λ known.
    let t = c.self.inside.table in
    let more = chosen_in c.args.block.now c.args.word in
    let G : Kept → Type 0 = λ g. KnowsAll g more in
    let K : List ℕ → Type 0 = λ ks. All (λ row. Contains (names (seen t)) (key_of codes ks row)) more in
    absurd (c.in_err-places_in_block.ensures.unknown (known_all t c.deref.result.now more (subst K (sym c.deref.ensures.value) (subst G (sym c.self.view_is) known))))

pub add_rows-requires-clause-there : goal.add_rows-requires-clause-there
add_rows-requires-clause-there c = λ i low is.
    placed_below c.places_in_block.new.table (key_of codes c.deref.result.now (row_at c.args.block.now i)) (get_or c.places_in_block.new.places i 0) c.places_in_block.ensures.ready.placed
    (c.in_ok-places_in_block.ensures.found i low is)

pub add_rows-requires-clause-sound : goal.add_rows-requires-clause-sound
add_rows-requires-clause-sound c =
    let n = c.self.inside.rows in
    c.places_in_block.ensures.sound n (subst (λ (is : List Item). AreSound n (length is) c.self.inside.table.values) (sym c.as_slice-items.ensures.value) c.self.invariant.sound)

pub invariant_of-self-2 : goal.invariant_of-self-2
invariant_of-self-2 c =
    let b = c.args.block.now in
    let word = c.args.word in
    let n = c.self.inside.rows in
    let before = c.self.invariant in
    let found = c.places_in_block.ensures in
    let mid = c.places_in_block.new.table in
    let new = c.add_rows.new.self in
    let last = c.places_in_block.new.last in
    let ones = c.count_of.ensures.count in
    record {
      few = omega (arith, c.requires.few, ap (λ (g : Kept). g.rows) c.self.view_is, ones, ones-block b word c.requires.below, few-chosen b word);
      short = before.short;
      ready = ready_on (length c.self.inside.keys.items) last.key.items last.place last.met.items mid new c.add_rows.ensures.placed (same_places mid new c.add_rows.ensures.places)
          (subst (λ (ks : List ℕ). IsReady (length ks) last.key.items last.place last.met.items mid) c.deref.ensures.value found.ready);
      sound = subst (λ m. AreSound (n + m) (length c.self.inside.items.items) new.values) (sym ones)
          (subst (λ (is : List Item). AreSound (n + count_ones word) (length is) new.values) c.as_slice-items.ensures.value c.add_rows.ensures.sound);
    }

pub returns-clause-count : goal.returns-clause-count
returns-clause-count c =
    omega (arith, ap (λ (g : Kept). g.rows) c.self.view_is, c.count_of.ensures.count, ones-block c.args.block.now c.args.word c.requires.below)

pub returns-clause-ok : goal.returns-clause-ok
returns-clause-ok c = λ rows s.
    let items = c.self.inside.items.items in
    let keys = c.self.inside.keys.items in
    let b = c.args.block.now in
    let word = c.args.word in
    let more = chosen_in b word in
    let old = c.self.inside.table in
    let mid = c.places_in_block.new.table in
    let new = c.add_rows.new.self in
    let places = c.places_in_block.new.places in
    let found = c.in_ok-places_in_block.ensures in
    let stands = subst (λ (g : Kept). Stands g rows) (sym c.self.view_is) s in
    let grown = subst (λ (is : List Item). HasGrown is old mid) c.as_slice-items.ensures.value found.grown in
    let named = subst (λ (ks : List ℕ). HasNamed old.places (map (key_of codes ks) more) mid.places) c.deref.ensures.value found.named in
    let each = subst (λ (ks : List ℕ). AreFound ks b word places mid) c.deref.ensures.value found.found in
    let added = subst (λ (is : List Item). AddsRows is b word places mid.values new.values) c.as_slice-items.ensures.value c.add_rows.ensures.added in
    record {
      count = omega (arith, stands.count, c.count_of.ensures.count, ones-block b word c.requires.below, length-append rows more);
      groups = groups_rows items keys b word places old mid new c.places_in_block.ensures.ready.placed c.add_rows.ensures.placed grown named each c.add_rows.ensures.places added rows stands.groups;
    }
