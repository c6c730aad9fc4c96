-- The tokens behind the first one.
use Rattle.std.proofs.Common.{◌≡◌, ◌<◌, ℕ, ◌+◌, ◌-◌, Bool, List, [], ◌∷◌, length, map, take, drop, Some, get_or, refl, sym, ap, ◌∙◌, subst, arith}
use Rattle.std.proofs.lemmas.List.{take_rest}
use Rattle.sql_text.specs.Reading.{choose}
use Rattle.sql_text.specs.Words.{meaning_in, StandIn}
use Rattle.sql_tokens.specs.declared.token.Token as tokens
use Rattle.inspect_places.specs.declared.state.State.{State}
use Rattle.inspect_places.specs.declared.word.Word.{Word}
use Rattle.inspect_places.specs.Kinds.{word_of}
use Rattle.inspect_places.specs.Steps.{after, step_sized, stop_from}

stand_behind : (bytes : List ℕ) (left : List tokens.Token) → StandIn bytes left → StandIn bytes (drop 1 left)
stand_behind bytes [] h = tt
stand_behind bytes (t ∷ ts) h = h.2

pub stand_rest : (bytes : List ℕ) (left : List tokens.Token) → StandIn bytes left → StandIn bytes (take (length left - 1) (drop 1 left))
stand_rest bytes left h = subst (StandIn bytes) (sym (take_rest left 1)) (stand_behind bytes left h)

module _ (l : Bool) (n : ℕ) (s r : State) (bytes : List ℕ) where
  step_behind : (left : List tokens.Token) (d : tokens.Token) (w : Word) → 0 < length left → w ≡ word_of (meaning_in bytes (get_or left 0 d)) → step_sized l s w.kind w.size ≡ Some r → stop_from l n s (map (meaning_in bytes) left) ≡ stop_from l (n + 1) r (map (meaning_in bytes) (drop 1 left))
  step_behind [] d w h e k = absurd (omega (arith, h))
  step_behind (t ∷ ts) d w h e k =
      let goes : after l s (meaning_in bytes t) ≡ Some r = sym (ap (λ v. step_sized l s v.kind v.size) e) ∙ k in
      ap (λ o. choose o (n, s) (λ q. stop_from l (n + 1) q (map (meaning_in bytes) ts))) goes

  pub step_rest : (left : List tokens.Token) (d : tokens.Token) (w : Word) → 0 < length left → w ≡ word_of (meaning_in bytes (get_or left 0 d)) → step_sized l s w.kind w.size ≡ Some r → stop_from l (n + 1) r (map (meaning_in bytes) (take (length left - 1) (drop 1 left))) ≡ stop_from l n s (map (meaning_in bytes) left)
  step_rest left d w h e k = ap (λ us. stop_from l (n + 1) r (map (meaning_in bytes) us)) (take_rest left 1) ∙ sym (step_behind left d w h e k)

pub map_rest : (bytes : List ℕ) (left : List tokens.Token) → map (meaning_in bytes) (take (length left - 1) (drop 1 left)) ≡ drop 1 (map (meaning_in bytes) left)
map_rest bytes left = ap (map (meaning_in bytes)) (take_rest left 1) ∙ by left where
  by : (left : List tokens.Token) → map (meaning_in bytes) (drop 1 left) ≡ drop 1 (map (meaning_in bytes) left)
  by [] = refl
  by (t ∷ ts) = refl
