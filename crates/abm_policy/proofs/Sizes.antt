-- The sizes of needs, added up one by one.
use Rattle.std.proofs.Common.{◌≡◌, ◌≤◌, ◌<◌, ◌+◌, ◌*◌, ◌∷◌, ◌++◌, [], ℕ, zero, suc, List, length, map, take, get_or, refl, sym, ◌∙◌, ap, arith}
use Rattle.std.proofs.lemmas.List.{take_more, take_all, length-map}
use Rattle.scan_story.specs.declared.setting.Setting.{Setting}
use Rattle.story_laws.specs.Lists.{sum_among}
use Rattle.story_laws.specs.Bounds.{sizes, capacity_for}
use Rattle.chunk_interest.specs.declared.need.Need.{Need}
use Rattle.chunk_interest.specs.Fresh.{as_need}

-- how many chunks these needs have together
abbrev pub wanted : List Need → ℕ
wanted needs = sum_among (λ n. length n.chunks) needs

wanted_append : (a b : List Need) → wanted (a ++ b) ≡ wanted a + wanted b
wanted_append [] b = omega arith
wanted_append (n ∷ a) b = let r = wanted_append a b in omega (arith, r)

pub wanted_more : (needs : List Need) (i : ℕ) (d : Need) → i < length needs → wanted (take (i + 1) needs) ≡ wanted (take i needs) + length (get_or needs i d).chunks
wanted_more needs i d lt =
    let more : wanted (take (i + 1) needs) ≡ wanted (take i needs ++ get_or needs i d ∷ []) = ap wanted (take_more needs i d lt) in
    let both = wanted_append (take i needs) (get_or needs i d ∷ []) in
    omega (arith, more, both)

pub wanted_least : (needs : List Need) (i : ℕ) → wanted (take i needs) ≤ wanted needs
wanted_least [] zero = omega arith
wanted_least [] (suc i) = omega arith
wanted_least (n ∷ needs) zero = omega arith
wanted_least (n ∷ needs) (suc i) = let r = wanted_least needs i in omega (arith, r)

pub wanted_all : (s : Setting) (needs : List Need) → map as_need needs ≡ s.needs → wanted needs ≡ sizes s
wanted_all s needs same = mapped needs ∙ ap (sum_among (λ n. length n.chunks)) same
  where
    mapped : (ns : List Need) → wanted ns ≡ sum_among (λ n. length n.chunks) (map as_need ns)
    mapped [] = refl
    mapped (n ∷ ns) = ap (λ k. length n.chunks + k) (mapped ns)

pub same_count : (s : Setting) (needs : List Need) → map as_need needs ≡ s.needs → length needs ≡ length s.needs
same_count s needs same = sym (length-map needs as_need) ∙ ap length same

pub wanted_end : (s : Setting) (needs : List Need) (i : ℕ) → map as_need needs ≡ s.needs → length needs ≤ i → wanted (take i needs) ≡ sizes s
wanted_end s needs i same le = ap wanted (take_all i needs le) ∙ wanted_all s needs same

pub capacity_is : (s : Setting) (d q g : ℕ) → d ≡ sizes s → q ≡ length s.needs → g ≡ s.groups → 3 * q + 2 * d + (d + 3 * q) * (2 + 2 * g) ≡ capacity_for s
capacity_is s d q g ed eq eg =
    ap (λ x. 3 * q + 2 * x + (x + 3 * q) * (2 + 2 * g)) ed ∙ ap (λ y. 3 * y + 2 * sizes s + (sizes s + 3 * y) * (2 + 2 * g)) eq ∙ ap (λ z. 3 * length s.needs + 2 * sizes s + (sizes s + 3 * length s.needs) * (2 + 2 * z)) eg
