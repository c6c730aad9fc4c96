use Rattle.std.proofs.Common.{◌≡◌, ◌∙◌, ◌||◌, ◌==◌, List, ℕ, length, map, sym, subst}
use Rattle.std.proofs.lemmas.Bool.{eqb-true, false≢true, eq-eqb}
use Rattle.table_sets.specs.Sets.{has}
use Rattle.sql_bind.specs.Places.{place_seen}
use Rattle.sql_bind.specs.Plans.{is_named}
use Rattle.sql_bind.proofs.Named.{members_below, first_alone, none_named, some_named}
use Rattle.sql_bind.proofs.naming.named_columns.Goals as goal

pub returns-then-is_empty : goal.returns-then-is_empty
returns-then-is_empty c =
    let none : length c.args.places.now ≡ 0 = eqb-true (length c.args.places.now) 0 (sym c.is_empty.ensures ∙ c.if-is_empty.true) in
    let P : List ℕ → Type 0 = λ old. (x : ℕ) → has c.insert.new.self x ≡ (has old x || x == 0) in
    first_alone c.insert.new.self c.len-count.ensures.members (subst P c.empty-first.ensures c.insert.ensures) ∙ sym (none_named c.args.columns.now c.args.places.now none)

pub returns : goal.returns
returns c =
    let ps = c.args.places.now in
    members_below c.all_named.result (is_named c.args.columns.now (map place_seen ps)) c.all_named.ensures.members c.all_named.ensures.named
    ∙ sym (some_named c.args.columns.now ps (λ e. false≢true (sym c.if-is_empty.false ∙ c.is_empty.ensures ∙ eq-eqb (length ps) 0 e)))
