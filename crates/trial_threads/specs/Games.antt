-- What a test of many threads asks of each berth.
use Rattle.std.specs.Prelude.{◌≡◌, None}
use Rattle.frame_pool.specs.Frames.{Told}
use Rattle.frame_pool.specs.Berths.{PoolView, BerthView, IsOf, IsBlank}

-- a berth without pins and fill of a pool with 3 frames of 64 words, whose content is not told
abbrev pub IsPlayer : Told → PoolView → BerthView → Type 0
IsPlayer told p b = (told ≡ None) × IsOf p b × IsBlank b × (p.shape.frames ≡ 3) × (p.shape.words ≡ 64)
