-- The best so far, going up the numbers: among equals the least number.
use Rattle.std.specs.Prelude.{◌≡◌, ◌<◌, ◌==◌, ◌*◌, ℕ, zero, suc, ℤ, Bool, true, false}
use Rattle.std.specs.Prelude.{Option, None, Some, nat_lt, int_lt, if◌then◌else◌}
use Rattle.scan_story.specs.declared.ratio.Ratio.{Ratio}
use Rattle.relevance.specs.declared.best.BestChunk.{BestChunk}
use Rattle.relevance.specs.declared.best.BestQuery.{BestQuery}

-- the number where it beats the best so far, or else the best so far
abbrev pub better_of : {B K : Type 0} → (ℕ → K → B) → (B → K) → (K → K → Bool) → Option B → ℕ → K → Option B
better_of made key beats None x k = Some (made x k)
better_of made key beats (Some b) x k = if beats k (key b) then Some (made x k) else Some b

-- the best of the numbers below n that pass
abbrev pub best_below : {B K : Type 0} → (ℕ → K → B) → (B → K) → (K → K → Bool) → (ℕ → Bool) → (ℕ → K) → ℕ → Option B
best_below made key beats test rank zero = None
best_below made key beats test rank (suc n) =
    if test n then better_of made key beats (best_below made key beats test rank n) n (rank n)
    else best_below made key beats test rank n

-- x passes, none that passes beats it, and it beats each that passes and is less: among equals it is the least
pub record IsFirstBest {K : Type 0} (beats : K → K → Bool) (test : ℕ → Bool) (rank : ℕ → K) (x : ℕ) : Type 0 where
  pub candidate : test x ≡ true
  pub best : (y : ℕ) → test y ≡ true → beats (rank y) (rank x) ≡ false
  pub first : (y : ℕ) → y < x → test y ≡ true → beats (rank x) (rank y) ≡ true

-- Chunks by ratios

abbrev pub is_greater : Ratio → Ratio → Bool
is_greater a b = nat_lt (b.num * a.den) (a.num * b.den)

abbrev pub is_less : Ratio → Ratio → Bool
is_less a b = is_greater b a

abbrev pub chunk_with : ℕ → Ratio → BestChunk
chunk_with c r = record { chunk = c; ratio = r }

abbrev pub ratio_of : BestChunk → Ratio
ratio_of b = b.ratio

abbrev pub greater_of : Option BestChunk → ℕ → Ratio → Option BestChunk
greater_of = better_of chunk_with ratio_of is_greater

abbrev pub lesser_of : Option BestChunk → ℕ → Ratio → Option BestChunk
lesser_of = better_of chunk_with ratio_of is_less

abbrev pub greatest_below : (ℕ → Bool) → (ℕ → Ratio) → ℕ → Option BestChunk
greatest_below = best_below chunk_with ratio_of is_greater

abbrev pub least_below : (ℕ → Bool) → (ℕ → Ratio) → ℕ → Option BestChunk
least_below = best_below chunk_with ratio_of is_less

-- a ratio with this number over one or more may be greater than the best
abbrev pub may_exceed : ℕ → Option BestChunk → Bool
may_exceed num None = true
may_exceed num (Some b) = nat_lt b.ratio.num (num * b.ratio.den)

-- the best has the number 0, so no ratio is less
abbrev pub is_least : Option BestChunk → Bool
is_least None = false
is_least (Some b) = b.ratio.num == 0

abbrev pub chunk_in : Option BestChunk → Option ℕ
chunk_in None = None
chunk_in (Some b) = Some b.chunk

-- Queries by ranks

abbrev pub is_higher : ℤ → ℤ → Bool
is_higher a b = int_lt b a

abbrev pub query_with : ℕ → ℤ → BestQuery
query_with q r = record { query = q; rank = r }

abbrev pub rank_of : BestQuery → ℤ
rank_of b = b.rank

abbrev pub higher_of : Option BestQuery → ℕ → ℤ → Option BestQuery
higher_of = better_of query_with rank_of is_higher

abbrev pub highest_below : (ℕ → Bool) → (ℕ → ℤ) → ℕ → Option BestQuery
highest_below = best_below query_with rank_of is_higher

abbrev pub query_in : Option BestQuery → Option ℕ
query_in None = None
query_in (Some b) = Some b.query
