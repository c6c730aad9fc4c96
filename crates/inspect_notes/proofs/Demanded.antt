-- What holds of a condition's truth holds of the parts that it demands.
use Rattle.std.proofs.Common.{◌≡◌, Bool, true, false, not, List, [], ◌∷◌, refl, sym, ◌∙◌}
use Rattle.std.specs.Prelude.{All, ◌&&◌}
use Rattle.std.specs.List.{list_all}
use Rattle.std.proofs.lemmas.Bool.{and_parts}
use Rattle.std.proofs.lemmas.List.Elements.{All-append, All-cons, All-nil}
use Rattle.table_core.specs.declared.cell.Cell.{Cell}
use Rattle.filter_zones.specs.Truth.{truth_of, least, greatest, opposite}
use Rattle.filter_zones.specs.Possible.{possible, is_pair}
use Rattle.filter_zones.specs.declared.cond.Cond.{Cond}
use Rattle.filter_zones.specs.declared.cond.Cond.TheVariants as cond
use Rattle.filter_zones.specs.declared.truth.Truth.{Truth}
use Rattle.filter_zones.specs.declared.truth.Truth.TheVariants as truth
use Rattle.filter_zones.specs.declared.truth_set.TruthSet.{TruthSet}
use Rattle.filter_zones.specs.declared.zone.ChunkZones.{ChunkZones}
use Rattle.filter_zones.proofs.Bits.{alike, alike_is, least_true}
use Rattle.inspect_notes.specs.Parts.{Part, demanded, may_have, in_each}
use Rattle.inspect_notes.specs.Demands.{asked, HasItsParts, AllowsItsParts}

-- ---- on a row

-- P holds of the part alone
one : (P : Part → Type 0) (p : Part) → P p → All P (p ∷ [])
one P p h = All-cons P p [] h (All-nil P)

both_true : (a b : Truth) → least a b ≡ truth.True → (a ≡ truth.True) × (b ≡ truth.True)
both_true truth.False b e = absurd (cc)
both_true truth.Unknown truth.False e = absurd (cc)
both_true truth.Unknown truth.Unknown e = absurd (cc)
both_true truth.Unknown truth.True e = absurd (cc)
both_true truth.True b e = (refl, e)

both_false : (a b : Truth) → greatest a b ≡ truth.False → (a ≡ truth.False) × (b ≡ truth.False)
both_false truth.True b e = absurd (cc)
both_false truth.Unknown truth.False e = absurd (cc)
both_false truth.Unknown truth.Unknown e = absurd (cc)
both_false truth.Unknown truth.True e = absurd (cc)
both_false truth.False b e = (refl, e)

turned : (want : Bool) (t : Truth) → opposite t ≡ asked want → t ≡ asked (not want)
turned true truth.True e = absurd (cc)
turned true truth.Unknown e = absurd (cc)
turned true truth.False e = refl
turned false truth.True e = refl
turned false truth.Unknown e = absurd (cc)
turned false truth.False e = absurd (cc)

pub has_parts : (want : Bool) (c : Cond) (row : List Cell) → HasItsParts want c row
has_parts want (cond.Compare x o v) row e = one (λ p. truth_of p.1 row ≡ asked p.0) (want, cond.Compare x o v) e
has_parts want (cond.IsNull x negated) row e = one (λ p. truth_of p.1 row ≡ asked p.0) (want, cond.IsNull x negated) e
has_parts true (cond.And' p a q b) row e =
    let t = both_true (truth_of a row) (truth_of b row) e in
    All-append (λ p. truth_of p.1 row ≡ asked p.0) (demanded true a) (demanded true b) (has_parts true a row t.0) (has_parts true b row t.1)
has_parts false (cond.And' p a q b) row e = one (λ p. truth_of p.1 row ≡ asked p.0) (false, cond.And' p a q b) e
has_parts true (cond.Or' p a q b) row e = one (λ p. truth_of p.1 row ≡ asked p.0) (true, cond.Or' p a q b) e
has_parts false (cond.Or' p a q b) row e =
    let t = both_false (truth_of a row) (truth_of b row) e in
    All-append (λ p. truth_of p.1 row ≡ asked p.0) (demanded false a) (demanded false b) (has_parts false a row t.0) (has_parts false b row t.1)
has_parts want (cond.Not' p a) row e = has_parts (not want) a row (turned want (truth_of a row) e)

-- ---- in each chunk

abbrev each : (Bool → Bool) → Bool
each f = f false && f true

in_both : (f : Bool → Bool) (b : Bool) → each f ≡ true → f b ≡ true
in_both f false e = (and_parts (f false) (f true) e).0
in_both f true e = (and_parts (f false) (f true) e).1

abbrev each_set : (TruthSet → Bool) → Bool
each_set f = each (λ x. each (λ y. each (λ z. f (record { can_false = x; can_unknown = y; can_true = z }))))

in_set : (f : TruthSet → Bool) (s : TruthSet) → each_set f ≡ true → f s ≡ true
in_set f s e =
    let x = in_both (λ x. each (λ y. each (λ z. f (record { can_false = x; can_unknown = y; can_true = z })))) s.can_false e in
    let y = in_both (λ y. each (λ z. f (record { can_false = s.can_false; can_unknown = y; can_true = z }))) s.can_unknown x in
    in_both (λ z. f (record { can_false = s.can_false; can_unknown = s.can_unknown; can_true = z })) s.can_true y

-- least is True only of two that are True: `least_true`; greatest is False only of two that are False
greatest_false : (a b : TruthSet) → (a.can_false && b.can_false) ≡ is_pair greatest a b truth.False
greatest_false a b = alike_is (a.can_false && b.can_false) (is_pair greatest a b truth.False) (in_set (λ c. alike (a.can_false && c.can_false) (is_pair greatest a c truth.False)) b (in_set (λ d. each_set (λ c. alike (d.can_false && c.can_false) (is_pair greatest d c truth.False))) a refl))

may_both : (a b : Cond) (p q : _) (chunk : ChunkZones) → may_have true (cond.And' p a q b) chunk ≡ true → (may_have true a chunk ≡ true) × (may_have true b chunk ≡ true)
may_both a b p q chunk e = and_parts (possible a chunk.zones).can_true (possible b chunk.zones).can_true (least_true (possible a chunk.zones) (possible b chunk.zones) ∙ e)

may_neither : (a b : Cond) (p q : _) (chunk : ChunkZones) → may_have false (cond.Or' p a q b) chunk ≡ true → (may_have false a chunk ≡ true) × (may_have false b chunk ≡ true)
may_neither a b p q chunk e = and_parts (possible a chunk.zones).can_false (possible b chunk.zones).can_false (greatest_false (possible a chunk.zones) (possible b chunk.zones) ∙ e)

-- what holds of each chunk
each_both : (f g h : ChunkZones → Bool) (zones : List ChunkZones) → ((chunk : ChunkZones) → f chunk ≡ true → (g chunk ≡ true) × (h chunk ≡ true)) → list_all f zones ≡ true
    → (list_all g zones ≡ true) × (list_all h zones ≡ true)
each_both f g h [] step all = (refl, refl)
each_both f g h (z ∷ zs) step all =
    let parts = and_parts (f z) (list_all f zs) all in
    let here = step z parts.0 in
    let rest = each_both f g h zs step parts.1 in
    (rw here.0 rest.0, rw here.1 rest.1)

each_same : (f g : ChunkZones → Bool) (zones : List ChunkZones) → ((chunk : ChunkZones) → f chunk ≡ g chunk) → list_all f zones ≡ list_all g zones
each_same f g [] step = refl
each_same f g (z ∷ zs) step = rw (step z, each_same f g zs step) refl

may_turned : (want : Bool) (p : _) (a : Cond) (chunk : ChunkZones) → may_have want (cond.Not' p a) chunk ≡ may_have (not want) a chunk
may_turned true p a chunk = refl
may_turned false p a chunk = refl

pub allows_parts : (want : Bool) (c : Cond) (zones : List ChunkZones) → AllowsItsParts want c zones
allows_parts want (cond.Compare x o v) zones e = one (λ p. in_each p.0 p.1 zones ≡ true) (want, cond.Compare x o v) e
allows_parts want (cond.IsNull x negated) zones e = one (λ p. in_each p.0 p.1 zones ≡ true) (want, cond.IsNull x negated) e
allows_parts true (cond.And' p a q b) zones e =
    let t = each_both (may_have true (cond.And' p a q b)) (may_have true a) (may_have true b) zones (may_both a b p q) e in
    All-append (λ r. in_each r.0 r.1 zones ≡ true) (demanded true a) (demanded true b) (allows_parts true a zones t.0) (allows_parts true b zones t.1)
allows_parts false (cond.And' p a q b) zones e = one (λ r. in_each r.0 r.1 zones ≡ true) (false, cond.And' p a q b) e
allows_parts true (cond.Or' p a q b) zones e = one (λ r. in_each r.0 r.1 zones ≡ true) (true, cond.Or' p a q b) e
allows_parts false (cond.Or' p a q b) zones e =
    let t = each_both (may_have false (cond.Or' p a q b)) (may_have false a) (may_have false b) zones (may_neither a b p q) e in
    All-append (λ r. in_each r.0 r.1 zones ≡ true) (demanded false a) (demanded false b) (allows_parts false a zones t.0) (allows_parts false b zones t.1)
allows_parts want (cond.Not' p a) zones e =
    allows_parts (not want) a zones (sym (each_same (may_have want (cond.Not' p a)) (may_have (not want) a) zones (may_turned want p a)) ∙ e)
