-- One guide more.
use Rattle.std.proofs.Common.{◌≡◌, ◌+◌, ◌++◌, ℕ, suc, [], refl, ◌∙◌, ap, arith}
use Rattle.inspect_picture.specs.declared.scale.Scale.{Scale}
use Rattle.inspect_picture.specs.Svg.{guides, guides_at}

pub no_guides : (z : Scale) → guides z 0 ≡ []
unfolding guides
no_guides z = refl

one_more : (z : Scale) (k : ℕ) → guides z (suc k) ≡ guides z k ++ guides_at z k
unfolding guides
one_more z k = refl

pub guides_more : (z : Scale) (k : ℕ) → guides z (k + 1) ≡ guides z k ++ guides_at z k
guides_more z k = let e : k + 1 ≡ suc k = omega arith in ap (guides z) e ∙ one_more z k
