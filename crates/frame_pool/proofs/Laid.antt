-- What the layout of a pool's table gives.
use Rattle.std.proofs.Common.{◌≡◌, ℕ, ◌<◌, arith, ap, refl, Option, Some, None, IsSome}
use Rattle.atomic_table.specs.Seated.{TableId}
use Rattle.frame_pool.specs.declared.geometry.Geometry.{Geometry}
use Rattle.frame_pool.specs.Berths.{IsLaid}

-- a frame's control word is in the table
pub near : (t : TableId) (key shape z : Geometry) (f : ℕ) → IsLaid t key shape → shape ≡ z → f < z.frames → (f < t.words) × (f < key.frames)
near t key shape z f laid same at =
    let wide = laid.wide in let a = ap (λ (y : Geometry). y.frames) same in let b = ap (λ (y : Geometry). y.frames) laid.key_is in (omega arith, omega arith)

pub the_some : {A : Type 0} (o : Option A) → IsSome o → (p : A) × (o ≡ Some p)
the_some None h = let no : ⊥ = cc in absurd no
the_some (Some p) h = (p, refl)
