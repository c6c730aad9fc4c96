-- One more number below a bound, and a write past the end.
use Rattle.std.proofs.Common.{◌≡◌, ◌≤◌, ◌+◌, ℕ, Bool, List, length, set, min, if◌then◌else◌, add-one, refl}
use Rattle.std.proofs.lemmas.List.{set_past}
use Rattle.scan_story.specs.Counting.{least_below}

pub least_below_more : (p : ℕ → Bool) (f : ℕ → ℕ) (n d : ℕ) → least_below p f (n + 1) d ≡ (if p n then min (f n) (least_below p f n d) else least_below p f n d)
least_below_more p f n d = rw add-one refl

pub set_outside : (xs : List ℕ) (i x : ℕ) → length xs ≤ i → set xs i x ≡ xs
set_outside xs i x h = set_past xs i x h
