-- The fittest victim: of those that are least close, the one of least key.
use Rattle.std.specs.Prelude.{◌≡◌, ◌==◌, ◌&&◌, ◌||◌, ℕ, Bool, false, Option, None, Some, nat_lt}
use Rattle.scan_story.specs.declared.setting.Setting.{Setting}
use Rattle.scan_story.specs.Views.{History}
use Rattle.scan_story.specs.MayFollow.{is_victim}
use Rattle.scan_story.specs.Policies.{IsLeast, is_least_close}
use Rattle.relevance.specs.Best.{better_of, best_below}
use Rattle.relevance.specs.declared.victim.Victim.{Victim}
use Rattle.relevance.specs.declared.victim.Fitness.{Fitness}

-- of the victims that are least close the one of least key, or none where there is no victim
abbrev pub PicksFittest : Setting → History → (ℕ → ℕ) → Option ℕ → Type 0
PicksFittest s h key None = (c : ℕ) → is_victim s h c ≡ false
PicksFittest s h key (Some c) = IsLeast (is_least_close s h) key c

-- The fittest so far, going up the chunks

abbrev pub victim : ℕ → Fitness → Victim
victim c fitness = record { chunk = c; fitness = fitness }

abbrev pub fitness_of : Victim → Fitness
fitness_of v = v.fitness

-- less close, or as close and of a smaller key
abbrev pub is_fitter : Fitness → Fitness → Bool
is_fitter a b = nat_lt a.close b.close || (a.close == b.close && nat_lt a.key b.key)

abbrev pub fitter_of : Option Victim → ℕ → Fitness → Option Victim
fitter_of = better_of victim fitness_of is_fitter

-- the fittest of the chunks below n that pass
abbrev pub fittest_below : (ℕ → Bool) → (ℕ → Fitness) → ℕ → Option Victim
fittest_below = best_below victim fitness_of is_fitter

abbrev pub chunk_in : Option Victim → Option ℕ
chunk_in None = None
chunk_in (Some v) = Some v.chunk
