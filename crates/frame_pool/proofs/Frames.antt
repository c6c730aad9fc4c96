-- The facts of a frame with its pins counted for each piece: the form that a step carries along.
use Rattle.std.specs.Prelude.{◌==◌, if◌then◌else◌}
use Rattle.std.proofs.Common.{◌≡◌, ◌≢◌, ℕ, suc, ◌<◌, List, [], ◌∷◌, arith, sym, refl, ap, ◌∙◌, subst, Option, Some, None, eq-eqb, ne_eqb}
use mathlib.Core.Option.{some}
use mathlib.Core.Logic.{dite}
use native.Mathlib.Decide.{ℕ_discrete}
use lib.ListN.{get_elem?}
use Rattle.frame_core.specs.declared.phase.FramePhase.{FramePhase}
use Rattle.frame_core.specs.declared.phase.FramePhase.TheVariants.{Free, Filling, Ready, Marked}
use Rattle.frame_core.specs.declared.state.State.{State}
use Rattle.frame_core.specs.Machine.{HoldsPiece}
use Rattle.frame_core.specs.Words.{IsWord}
use Rattle.frame_pool.specs.declared.view.Duty.{Duty}
use Rattle.frame_pool.specs.Views.{filling, pinned, total, one_if, one_some, one_fill, pins_on, fills_on}
use Rattle.frame_pool.specs.Frames.{Told, Begins, HasPiece, fillers_of, FrameFacts}
use Rattle.frame_pool.proofs.Views.{sum_has}

abbrev pub one_at : ℕ → Option ℕ → ℕ
one_at p None = 0
one_at p (Some q) = one_if (q == p)

-- 1 where the berth pins the frame f with the piece p
abbrev pub pins_with : ℕ → ℕ → Duty → ℕ
pins_with f p v = one_at p (pinned f v.pins)

-- the pins that a frame in this state has with the piece p
abbrev pub pins_of : State → ℕ → ℕ
pins_of s p = if s.piece == p then s.pins else 0

pub record FrameOk (told : Told) (width f control : ℕ) (row : ℕ → ℕ) (views : List Duty) : Type 0 where
  pub state : State
  pub word : IsWord control state
  pub empty : ¬ HoldsPiece state.phase → (state.piece ≡ 0) × (state.pins ≡ 0)
  pub pins : (p : ℕ) → total (pins_with f p) views ≡ pins_of state p
  pub fills : total (fills_on f) views ≡ fillers_of state.phase
  pub written : (j : ℕ) (v : Duty) (ws : List ℕ) → get_elem? views j ≡ some v → v.fill ≡ Some (filling f ws) → Begins width ws row
  pub filled : HoldsPiece state.phase → HasPiece told width state.piece row

total_eq : (h k : Duty → ℕ) (l : List Duty) → ((j : ℕ) (v : Duty) → get_elem? l j ≡ some v → h v ≡ k v) → total h l ≡ total k l
total_eq h k [] same = refl
total_eq h k (x ∷ xs) same = let a = same 0 x refl in let b = total_eq h k xs (λ j v e. same (suc j) v e) in omega arith

total_zero : (h : Duty → ℕ) (l : List Duty) → ((j : ℕ) (v : Duty) → get_elem? l j ≡ some v → h v ≡ 0) → total h l ≡ 0
total_zero h [] none_has = refl
total_zero h (x ∷ xs) none_has = let a = none_has 0 x refl in let b = total_zero h xs (λ j v e. none_has (suc j) v e) in omega arith

one_of : (o : Option ℕ) (p : ℕ) → ((q : ℕ) → o ≡ Some q → p ≡ q) → one_some o ≡ one_at p o
one_of None p h = refl
one_of (Some q) p h = rw (eq-eqb q p (sym (h q refl))) refl

zero_of : (o : Option ℕ) (p : ℕ) → ((q : ℕ) → o ≡ Some q → q ≢ p) → one_at p o ≡ 0
zero_of None p h = refl
zero_of (Some q) p h = rw (ne_eqb q p (h q refl)) refl

held_if : (p : FramePhase) (piece pins : ℕ) → (¬ HoldsPiece p → (piece ≡ 0) × (pins ≡ 0)) → 0 < pins → HoldsPiece p
held_if Free piece pins e h = let t = e (λ x. x) in let gone = t.1 in absurd (omega arith)
held_if Filling piece pins e h = let t = e (λ x. x) in let gone = t.1 in absurd (omega arith)
held_if Ready piece pins e h = tt
held_if Marked piece pins e h = tt

filling_if : (p : FramePhase) → 0 < fillers_of p → p ≡ Filling
filling_if Free h = absurd (omega arith)
filling_if Filling h = refl
filling_if Ready h = absurd (omega arith)
filling_if Marked h = absurd (omega arith)

pub one_here : (f : ℕ) (ws : List ℕ) → one_fill f (Some (filling f ws)) ≡ 1
one_here f ws = rw (eq-eqb f f refl) refl

module _ (told : Told) (width f c : ℕ) (row : ℕ → ℕ) (l : List Duty) where
  -- a frame that a berth pins has that piece, and a pin
  pub pin_held : (i p : ℕ) (v : Duty) (ok : FrameOk told width f c row l) → get_elem? l i ≡ some v → pinned f v.pins ≡ Some p → (ok.state.piece ≡ p) × (0 < ok.state.pins) × HoldsPiece ok.state.phase
  pin_held i p v ok at is =
      let one : pins_with f p v ≡ 1 = ap (one_at p) is ∙ rw (eq-eqb p p refl) refl in
      let has = sum_has (pins_with f p) l i v at in let sum = ok.pins p in
      dite (ℕ_discrete ok.state.piece p)
      (λ e. let here : pins_of ok.state p ≡ ok.state.pins = rw (eq-eqb ok.state.piece p e) refl in let some_pin : 0 < ok.state.pins = omega arith in
      (e, some_pin, held_if ok.state.phase ok.state.piece ok.state.pins ok.empty some_pin))
      (λ ne. let here : pins_of ok.state p ≡ 0 = rw (ne_eqb ok.state.piece p ne) refl in absurd (omega arith))

  -- a frame that a berth fills is being filled, and no berth pins it
  pub fill_held : (i : ℕ) (v : Duty) (ws : List ℕ) (ok : FrameOk told width f c row l) → get_elem? l i ≡ some v → v.fill ≡ Some (filling f ws) → (ok.state.phase ≡ Filling) × (ok.state.pins ≡ 0)
  fill_held i v ws ok at fill =
      let one : fills_on f v ≡ 1 = ap (one_fill f) fill ∙ one_here f ws in
      let has = sum_has (fills_on f) l i v at in let sum = ok.fills in
      let is : ok.state.phase ≡ Filling = filling_if ok.state.phase (omega arith) in
      (is, (ok.empty (subst (λ (z : FramePhase). ¬ HoldsPiece z) (sym is) (λ h. h))).1)

  -- from the facts in plain words
  pub counted : FrameFacts told width f c row l → FrameOk told width f c row l
  counted r = record {
    state = r.state;
    word = r.word;
    empty = r.empty;
    pins = λ p. dite (ℕ_discrete r.state.piece p)
        (λ e. rw (eq-eqb r.state.piece p e)
        (sym (total_eq (pins_on f) (pins_with f p) l (λ j v at. one_of (pinned f v.pins) p (λ q is. sym e ∙ (r.held j q v at is).1))) ∙ r.pins))
        (λ ne. rw (ne_eqb r.state.piece p ne)
        (total_zero (pins_with f p) l (λ j v at. zero_of (pinned f v.pins) p (λ q is e. ne ((r.held j q v at is).1 ∙ e)))));
    fills = r.fills;
    written = r.written;
    filled = r.filled;
  }

  -- and back to them
  pub plain : FrameOk told width f c row l → FrameFacts told width f c row l
  plain ok = record {
    state = ok.state;
    word = ok.word;
    empty = ok.empty;
    pins = total_eq (pins_on f) (pins_with f ok.state.piece) l (λ j v at. one_of (pinned f v.pins) ok.state.piece (λ q e. (pin_held j q v ok at e).0))
        ∙ (ok.pins ok.state.piece ∙ rw (eq-eqb ok.state.piece ok.state.piece refl) refl);
    held = λ j p v at is. let t = pin_held j p v ok at is in (t.2, t.0);
    fills = ok.fills;
    written = ok.written;
    filled = ok.filled;
  }
