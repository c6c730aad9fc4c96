-- Definitions by recursion over bytes, where a loop stands in the middle of them.
use Rattle.std.proofs.Common.{◌≡◌, ◌+◌, ◌<◌, ◌≤◌, ℕ, Bool, List, length, drop, get_or, refl, add-one, drop-cons, drop_of_length-le, Some, None}
use Rattle.std.specs.Prelude.{[], ◌∷◌, ◌&&◌, if◌then◌else◌}
use Rattle.csv.specs.Machine.{step}
use Rattle.csv.specs.declared.parser.Config.{Config}
use Rattle.csv.specs.declared.parser.State.{State}
use Rattle.prepare_look.specs.Lines.{count, ended, is_feed, is_return, line_ends, one_if, pairs}
use Rattle.prepare_look.specs.Walk.{begins, begins_from, is_quoted, open_from, opens}

pub count-more : (is : ℕ → Bool) (xs : List ℕ) (i : ℕ) → i < length xs → count is (drop i xs) ≡ one_if (is (get_or xs i 0)) + count is (drop (i + 1) xs)
unfolding count
count-more is xs i h = rw (add-one, drop-cons xs i 0) refl

pub count-done : (is : ℕ → Bool) (xs : List ℕ) (i : ℕ) → length xs ≤ i → count is (drop i xs) ≡ 0
unfolding count
count-done is xs i h = rw (drop_of_length-le xs h) refl

pub pairs-more : (r : Bool) (xs : List ℕ) (i : ℕ) → i < length xs
    → pairs r (drop i xs) ≡ one_if (r && is_feed (get_or xs i 0)) + pairs (is_return (get_or xs i 0)) (drop (i + 1) xs)
unfolding pairs
pairs-more r xs i h = rw (add-one, drop-cons xs i 0) refl

pub pairs-done : (r : Bool) (xs : List ℕ) (i : ℕ) → length xs ≤ i → pairs r (drop i xs) ≡ 0
unfolding pairs
pairs-done r xs i h = rw (drop_of_length-le xs h) refl

pub ends-more : (r : Bool) (xs : List ℕ) (i : ℕ) → i < length xs
    → line_ends r (drop i xs) ≡ ended r (get_or xs i 0) + line_ends (is_return (get_or xs i 0)) (drop (i + 1) xs)
unfolding line_ends
ends-more r xs i h = rw (add-one, drop-cons xs i 0) refl

pub ends-done : (r : Bool) (xs : List ℕ) (i : ℕ) → length xs ≤ i → line_ends r (drop i xs) ≡ 0
unfolding line_ends
ends-done r xs i h = rw (drop_of_length-le xs h) refl

begins-more : (cfg : Config) (s : State) (r : Bool) (line : ℕ) (xs : List ℕ) (i : ℕ) → i < length xs
    → begins_from cfg s r line (drop i xs) ≡
    (if begins s (step cfg s (get_or xs i 0)).0
    then line ∷ begins_from cfg (step cfg s (get_or xs i 0)).0 (is_return (get_or xs i 0)) (line + ended r (get_or xs i 0)) (drop (i + 1) xs)
    else begins_from cfg (step cfg s (get_or xs i 0)).0 (is_return (get_or xs i 0)) (line + ended r (get_or xs i 0)) (drop (i + 1) xs))
unfolding begins_from
begins-more cfg s r line xs i h = rw (add-one, drop-cons xs i 0) refl

pub begins-on : (cfg : Config) (s s2 : State) (r r2 : Bool) (line line2 : ℕ) (xs : List ℕ) (i j : ℕ) → i < length xs
    → s2 ≡ (step cfg s (get_or xs i 0)).0 → r2 ≡ is_return (get_or xs i 0) → line2 ≡ line + ended r (get_or xs i 0) → j ≡ i + 1
    → begins_from cfg s r line (drop i xs) ≡ (if begins s s2 then line ∷ begins_from cfg s2 r2 line2 (drop j xs) else begins_from cfg s2 r2 line2 (drop j xs))
begins-on cfg s s2 r r2 line line2 xs i j h es er el ej = rw (es, er, el, ej) (begins-more cfg s r line xs i h)

pub begins-done : (cfg : Config) (s : State) (r : Bool) (line : ℕ) (xs : List ℕ) (i : ℕ) → length xs ≤ i → begins_from cfg s r line (drop i xs) ≡ []
unfolding begins_from
begins-done cfg s r line xs i h = rw (drop_of_length-le xs h) refl

open-more : (cfg : Config) (s : State) (r : Bool) (line mark : ℕ) (xs : List ℕ) (i : ℕ) → i < length xs
    → open_from cfg s r line mark (drop i xs) ≡ open_from cfg (step cfg s (get_or xs i 0)).0 (is_return (get_or xs i 0)) (line + ended r (get_or xs i 0))
    (if opens s (step cfg s (get_or xs i 0)).0 then line else mark) (drop (i + 1) xs)
unfolding open_from
open-more cfg s r line mark xs i h = rw (add-one, drop-cons xs i 0) refl

pub open-on : (cfg : Config) (s s2 : State) (r r2 : Bool) (line line2 mark : ℕ) (xs : List ℕ) (i j : ℕ) → i < length xs
    → s2 ≡ (step cfg s (get_or xs i 0)).0 → r2 ≡ is_return (get_or xs i 0) → line2 ≡ line + ended r (get_or xs i 0) → j ≡ i + 1
    → open_from cfg s r line mark (drop i xs) ≡ open_from cfg s2 r2 line2 (if opens s s2 then line else mark) (drop j xs)
open-on cfg s s2 r r2 line line2 mark xs i j h es er el ej = rw (es, er, el, ej) (open-more cfg s r line mark xs i h)

pub open-done : (cfg : Config) (s : State) (r : Bool) (line mark : ℕ) (xs : List ℕ) (i : ℕ) → length xs ≤ i
    → open_from cfg s r line mark (drop i xs) ≡ (if is_quoted s then Some mark else None)
unfolding open_from
open-done cfg s r line mark xs i h = rw (drop_of_length-le xs h) refl
