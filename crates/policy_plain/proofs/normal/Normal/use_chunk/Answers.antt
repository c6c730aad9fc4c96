use Rattle.std.proofs.Common.{◌∙◌, ◌++◌, ◌∷◌, [], ◌<◌, ℕ, List, length, sym, ap, subst, arith}
use Rattle.policy_plain.specs.Uses.{are_uses}
use Rattle.policy_plain.proofs.Using.{uses_moved, room_for}
use Rattle.policy_plain.proofs.normal.Normal.use_chunk.Goals as goal

pub push-requires : goal.push-requires
push-requires c = (omega arith, subst (λ (xs : List ℕ). length xs < 1024) (sym c.without.ensures) (room_for c.args.c c.args.self.now.used.items c.requires c.args.self.now.uses))

pub invariant_of-self : goal.invariant_of-self
invariant_of-self c = record {
  uses = ap are_uses (c.push.ensures.items ∙ ap (λ (xs : List ℕ). xs ++ c.args.c ∷ []) c.without.ensures) ∙ uses_moved c.args.c c.requires c.args.self.now.used.items c.args.self.now.uses;
}

pub returns : goal.returns
returns c = c.push.ensures.items ∙ ap (λ (xs : List ℕ). xs ++ c.args.c ∷ []) c.without.ensures
