-- The front of a list, taken a part at a time.
use Rattle.std.proofs.Common.{◌≡◌, ◌≤◌, ◌+◌, ◌<◌, nat_lt, Ok, Bool, true, false, ℕ, List, ◌++◌, length, take, drop, Option, Some, None, refl, sym, ap, ◌∙◌, arith, inl, inr, append_assoc, length-append, length-drop, ◌-◌}
use Rattle.std.proofs.lemmas.Bool.Decides.{nat_tests}
use Rattle.std.proofs.lemmas.List.{length-take-le, append-nil, take_all}
use Rattle.std.proofs.Math.Seq.{take-add}
use Rattle.coop_outside.specs.Causes.{Rose}
use Rattle.coop_outside.specs.Held.{Held, ReadFails, ReadsAt, ReadsMore}
use Rattle.coop_outside.specs.Taken.{grown}

-- a count that rose since a later moment rose since an earlier one
pub rose-since : (before mid now : ℕ) → before ≤ mid → Rose mid now → Rose before now
rose-since before mid now h r = omega arith

pub fails-since : (held held' : Held) (name : List ℕ) (before mid now : ℕ) → before ≤ mid → held' ≡ held → ReadFails held' name mid now → ReadFails held name before now
fails-since held held' name before mid now h e (inl rose) = inl (rose-since before mid now h rose)
fails-since held held' name before mid now h e (inr lacks) = inr (rw e at lacks)

pub grown-grown : (taken : Option (List ℕ)) (xs : List ℕ) (i n : ℕ) → grown (grown taken (take i xs)) (take n (drop i xs)) ≡ grown taken (take (i + n) xs)
grown-grown None xs i n = refl
grown-grown (Some t) xs i n = ap Some (append_assoc t (take i xs) (take n (drop i xs)) ∙ ap (λ (l : List ℕ). t ++ l) (sym (take-add i n xs)))

pub front-more : (told old buf : List ℕ) (n : ℕ) → n ≤ length buf → old ≡ take (length old) told → take n buf ≡ take n (drop (length old) told)
    → old ++ take n buf ≡ take (length (old ++ take n buf)) told
front-more told old buf n h front part =
    let size : length (old ++ take n buf) ≡ length old + n = omega (arith, length-append old (take n buf), length-take-le n buf h) in
    rw (size, take-add (length old) n told) (rw (← front, part) refl)

pub reads-more : (held : Held) (name old new buf : List ℕ) (n room : ℕ) (b : Bool) → b ≡ nat_lt 0 n → ReadsAt held name (length old) (Ok n) buf → new ≡ old ++ take n buf → length buf ≡ room → 0 < room
    → ReadsMore held name room b old new
reads-more held name old new buf n room false b (small, there, part) e same_room some =
    let none : n ≡ 0 = grind (arith, nat_tests) in
    let same : new ≡ old = e ∙ rw none (append-nil old) in
    (there, omega (arith, ap (length {A = ℕ}) same), same, λ told holds front. (rw same front, (part told holds).1 none (omega arith)))
reads-more held name old new buf n room true b (small, there, part) e same_room some =
    let more : 0 < n = grind (arith, nat_tests) in
    let size : length new ≡ length old + n = omega (arith, ap (length {A = ℕ}) e, length-append old (take n buf), length-take-le n buf small) in
    (there, omega (arith, size, small), omega (arith, size, more), λ told holds front. (rw e (front-more told old buf n small front (part told holds).0), tt))

-- the rest of a slice, as code cuts it
pub rest-all : (xs : List ℕ) (i : ℕ) → take (length xs - i) (drop i xs) ≡ drop i xs
rest-all xs i = take_all (length xs - i) (drop i xs) (omega (arith, length-drop i xs))
