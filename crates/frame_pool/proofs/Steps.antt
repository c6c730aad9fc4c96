-- Each step keeps the rule of the pool's table.
use Rattle.std.proofs.Common.{◌≡◌, ◌≢◌, ◌⊎◌, inl, inr, ⊎_elim, slice_get, IsSome, ℕ, zero, suc, ◌+◌, ◌-◌, ◌*◌, ◌%◌, ◌^◌, ◌<◌, eqb, List, [], ◌∷◌, ◌++◌, length, replicate, get_or, set, arith, sym, refl, ap, ◌∙◌, subst, Option, Some, None, eq-eqb, ne_eqb, length-set, length-append, get_or-set_other, get_or-set_same}
use Rattle.std.proofs.lemmas.Nat.{same_from_place, mul-add-lt}
use mathlib.Core.Option.{none, some, some-injective, some-ne-none}
use mathlib.Core.Logic.{dite}
use native.Mathlib.Decide.{ℕ_discrete}
use lib.ListN.{get_elem?, length-replicate, get_or-replicate}
use lib.Seq.{set-get_or}
use prog.Atomic.{either}
use Rattle.atomic_table.specs.Table as table
use Rattle.atomic_table.specs.Table.{Me, step, Act, keeps, stepped, Allows, Splits, Joins, opening}
use Rattle.atomic_table.proofs.Lists.{at_set, at_snoc, set_again, exchanged}
use Rattle.frame_core.specs.declared.phase.FramePhase.{FramePhase}
use Rattle.frame_core.specs.declared.phase.FramePhase.TheVariants.{Free, Filling, Ready, Marked}
use Rattle.frame_core.specs.declared.state.State.{State}
use Rattle.frame_core.specs.declared.step.Step as frame
use Rattle.frame_core.specs.declared.step.Step.TheVariants.{Take, Release, Mark, Claim, Publish, Abandon, Read}
use Rattle.frame_core.specs.Machine.{state, HoldsPiece, Guard, after}
use Rattle.frame_core.specs.Words.{control_word, state_at, IsWord}
use Rattle.frame_core.proofs.Words.{number_small, one_state, state_at_word}
use Rattle.frame_pool.specs.declared.geometry.Geometry.{Geometry}
use Rattle.frame_pool.specs.declared.view.Pin.{Pin}
use Rattle.frame_pool.specs.declared.view.Fill.{Fill}
use Rattle.frame_pool.specs.declared.view.Duty.{Duty}
use Rattle.frame_pool.specs.Views.{total, duty, blank, spent, pin, filling, grown, pinned, unpinned, one_if, one_fill, fills_on}
use Rattle.frame_pool.specs.Frames.{Told, Begins, HasPiece, fillers_of, place, Framed}
use Rattle.frame_pool.specs.Steps.{May, view_after, Moved, looked, took, released, marked, claimed, Ended, published, abandoned, wrote, IsWordOf, read_word}
use Rattle.frame_pool.specs.Berths.{IsWhole}
use Rattle.frame_pool.proofs.Views.{some_same, sum_set, sum_snoc, sum_same, sum_two, pinned_here, pinned_else, unpinned_here, unpinned_else}
use Rattle.frame_pool.proofs.Frames.{one_at, pins_with, pins_of, FrameOk, one_here, pin_held, fill_held, counted, plain}

abbrev St : Type 0
St = table.State (Unit {0}) Duty

abbrev M : Type 0
M = Me (Unit {0}) Duty

begins_along : (width : ℕ) (ws : List ℕ) (row row' : ℕ → ℕ) → ((i : ℕ) → i < width → row' i ≡ row i) → Begins width ws row → Begins width ws row'
begins_along width ws row row' same h i l near = same i near ∙ h i l near

has_along : (told : Told) (width p : ℕ) (row row' : ℕ → ℕ) → ((i : ℕ) → i < width → row' i ≡ row i) → HasPiece told width p row → HasPiece told width p row'
has_along None width p row row' same h = tt
has_along (Some pieces) width p row row' same h = (h.0, h.1, begins_along width h.0 row row' same h.2)

-- what was put whole is the piece
whole : (told : Told) (width f p : ℕ) (ws : List ℕ) (fill : Option Fill) → fill ≡ Some (filling f ws) → IsWhole told p fill → (row : ℕ → ℕ) → Begins width ws row → HasPiece told width p row
whole None width f p ws fill is all row h = tt
whole (Some pieces) width f p ws fill is all row h = (ws, subst (λ (o : Option Fill). IsWhole (Some pieces) p o) is all, h)

-- what a berth fills, after the view of one berth was replaced
written_set : (width f i : ℕ) (l : List Duty) (v w : Duty) (row row' : ℕ → ℕ)
    → ((ws : List ℕ) → w.fill ≡ Some (filling f ws) → Begins width ws row')
    → ((j : ℕ) (u : Duty) (ws : List ℕ) → j ≢ i → get_elem? l j ≡ some u → u.fill ≡ Some (filling f ws) → Begins width ws row')
    → (j : ℕ) (u : Duty) (ws : List ℕ) → get_elem? (set l i w) j ≡ some u → u.fill ≡ Some (filling f ws) → Begins width ws row'
written_set width f i l v w row row' mine theirs j u ws at fill = ⊎_elim
    (λ (t : (j ≡ i) × (w ≡ u)). mine ws (ap (λ (z : Duty). z.fill) t.1 ∙ fill))
    (λ (t : (j ≢ i) × (get_elem? l j ≡ some u)). theirs j u ws t.0 t.1 fill)
    (at_set l i j w u at)

module _ (told : Told) where
  -- each frame of a table that keeps the rule
  kept : (z : Geometry) (s : St) → Framed told z s → (f : ℕ) → f < z.frames → FrameOk told z.words f (get_or s.words f 0) (λ k. get_or s.words (place z f k) 0) s.views
  kept z s r f l = counted told z.words f (get_or s.words f 0) (λ k. get_or s.words (place z f k) 0) s.views (r.frame f l)

  keeping : (z : Geometry) (s : St) → length s.words ≡ z.frames + z.frames * z.words
      → ((f : ℕ) → f < z.frames → FrameOk told z.words f (get_or s.words f 0) (λ k. get_or s.words (place z f k) 0) s.views) → Framed told z s
  keeping z s wide frame = record { wide = wide; frame = λ f l. plain told z.words f (get_or s.words f 0) (λ k. get_or s.words (place z f k) 0) s.views (frame f l) }

  -- a frame that the step does not touch
  others : (width c g : ℕ) (row row' : ℕ → ℕ) (l : List Duty) (i : ℕ) (v w : Duty) → get_elem? l i ≡ some v → ((p : ℕ) → pins_with g p w ≡ pins_with g p v) → fills_on g w ≡ fills_on g v
      → ((ws : List ℕ) → w.fill ≡ Some (filling g ws) → v.fill ≡ Some (filling g ws)) → ((k : ℕ) → k < width → row' k ≡ row k)
      → FrameOk told width g c row l → FrameOk told width g c row' (set l i w)
  others width c g row row' l i v w at pins fill fills same r = record {
    state = r.state;
    word = r.word;
    empty = r.empty;
    pins = λ p. sum_same (pins_with g p) l i v w at (pins p) ∙ r.pins p;
    fills = sum_same (fills_on g) l i v w at fill ∙ r.fills;
    written = written_set width g i l v w row row' (λ ws e. begins_along width ws row row' same (r.written i v ws at (fills ws e)))
        (λ j u ws ne there e. begins_along width ws row row' same (r.written j u ws there e));
    filled = λ h. has_along told width r.state.piece row row' same (r.filled h);
  }

  -- a control word is below every data word
  rows_stay : (z : Geometry) (ws : List ℕ) (f x g : ℕ) → f < z.frames → (k : ℕ) → get_or (set ws f x) (place z g k) 0 ≡ get_or ws (place z g k) 0
  rows_stay z ws f x g inside k = get_or-set_other ws f (place z g k) x 0 (λ e. omega arith)

  -- a step on the control word of f
  moves : (z : Geometry) (s : St) (r : Framed told z s) (f x i : ℕ) (v w : Duty) (slots : List (ℕ × Unit {0})) → f < z.frames → get_elem? s.views i ≡ some v
      → ((g p : ℕ) → g ≢ f → pins_with g p w ≡ pins_with g p v) → ((g : ℕ) → g ≢ f → fills_on g w ≡ fills_on g v)
      → ((g : ℕ) (ws : List ℕ) → g ≢ f → w.fill ≡ Some (filling g ws) → v.fill ≡ Some (filling g ws))
      → FrameOk told z.words f x (λ k. get_or s.words (place z f k) 0) (set s.views i w) → Framed told z (stepped s f x i slots w keeps)
  moves z s r f x i v w slots inside at pins fill fills here = let wide = r.wide in let lt : f < length s.words = omega arith in
      keeping z (stepped s f x i slots w keeps) (length-set s.words f x ∙ r.wide)
      (λ g l. dite (ℕ_discrete g f)
      (λ e. subst (λ (k : ℕ). FrameOk told z.words k (get_or (set s.words f x) k 0) (λ m. get_or (set s.words f x) (place z k m) 0) (set s.views i w)) (sym e)
      (subst (λ (t : ℕ × (ℕ → ℕ)). FrameOk told z.words f t.0 t.1 (set s.views i w))
      (λ k. (sym (get_or-set_same s.words f x 0 lt) k, λ m. sym (rows_stay z s.words f x f inside m) k)) here))
      (λ ne. subst (λ (c : ℕ). FrameOk told z.words g c (λ m. get_or (set s.words f x) (place z g m) 0) (set s.views i w)) (sym (get_or-set_other s.words f g x 0 ne))
      (others z.words (get_or s.words g 0) g (λ m. get_or s.words (place z g m) 0) (λ m. get_or (set s.words f x) (place z g m) 0) s.views i v w at (λ p. pins g p ne) (fill g ne) (λ ws. fills g ws ne)
      (λ k near. rows_stay z s.words f x g inside k) (kept z s r g l))))

  stays : (z : Geometry) (s : St) (r : Framed told z s) (f i : ℕ) (v : Duty) (slots : List (ℕ × Unit {0})) → get_elem? s.views i ≡ some v → Framed told z (stepped s f (get_or s.words f 0) i slots v keeps)
  stays z s r f i v slots at = subst (λ (t : List ℕ × List Duty). Framed told z record { words = t.0; homes = s.homes; views = t.1 })
      (λ k. (sym (set-get_or s.words f 0) k, sym (set_again s.views i v at) k)) r

  no_pins : (s : State) → s.pins ≡ 0 → (p : ℕ) → pins_of s p ≡ 0
  no_pins s gone p = dite (ℕ_discrete s.piece p) (λ e. rw (eq-eqb s.piece p e) gone) (λ n. rw (ne_eqb s.piece p n) refl)

  one_else : (f g : ℕ) (ws : List ℕ) → g ≢ f → one_fill g (Some (filling f ws)) ≡ 0
  one_else f g ws n = rw (ne_eqb f g (λ e. n (sym e))) refl

  claim_empty : (s : State) → Guard s Claim → (¬ HoldsPiece s.phase → (s.piece ≡ 0) × (s.pins ≡ 0)) → (s.pins ≡ 0) × (fillers_of s.phase ≡ 0)
  claim_empty s may empty = ⊎_elim
      (λ (e : s.phase ≡ Free). ((empty (subst (λ (z : FramePhase). ¬ HoldsPiece z) (sym e) (λ h. h))).1, ap fillers_of e))
      (λ (t : (s.phase ≡ Marked) × (s.pins ≡ 0)). (t.1, ap fillers_of t.0)) may

  same_frame : (f g : ℕ) (ws us : List ℕ) (o : Option Fill) → o ≡ Some (filling f ws) → o ≡ Some (filling g us) → (f ≡ g) × (ws ≡ us)
  same_frame f g ws us o a b = let e : filling f ws ≡ filling g us = some_same (filling f ws) (filling g us) (sym a ∙ b) in (ap (λ (x : Fill). x.frame) e, ap (λ (x : Fill). x.words) e)

  no_fill : (o : Option Fill) (x : Fill) → o ≡ None → o ≡ Some x → ⊥
  no_fill o x a b = cc

  pub claims : (z : Geometry) (slots i : ℕ) (me : M) (f old new : ℕ) (st : State) → f < z.frames → IsWord old st → Guard st Claim → new ≡ control_word (after st Claim) → me.0.fill ≡ None
      → Allows (Framed told z) slots i me f (λ x. either (eqb x old) new x) (claimed (step slots f old new none) me)
  claims z slots i me f old new st inside is may becomes free s r _ at _ =
      let x : ℕ = get_or s.words f 0 in let v : Duty = me.0 in let w : Duty = duty v.shape v.pins (Some (filling f [])) in
      let ok = kept z s r f inside in
      exchanged x old new (λ (y : ℕ). (w' : Duty) × (a : Act (Unit {0})) × table.Valid s.homes me.1 a × Framed told z (stepped s f y i me.1 w' a) × claimed (step slots f old new none) me x (w', table.carried_after me.1 a))
      (λ hit.
      let same : ok.state ≡ st = one_state ok.state st ok.word.2 is.2 (sym ok.word.0 ∙ (hit ∙ is.0)) in
      let back : state_at x ≡ st = ap state_at (hit ∙ is.0) ∙ state_at_word st is.2 in
      let may' : Guard ok.state Claim = subst (λ (y : State). Guard y Claim) (sym same) may in
      let none_yet = claim_empty ok.state may' ok.empty in
      let was : fills_on f v ≡ 0 = ap (one_fill f) free in
      let one = one_here f [] in
      let sum = sum_set (fills_on f) s.views i v w at in
      let had = ok.fills in let over = none_yet.1 in
      let row : ℕ → ℕ = λ k. get_or s.words (place z f k) 0 in (
        w,
        keeps,
        tt,
        moves z s r f new i v w me.1 inside at (λ g p ne. refl) (λ g ne. one_else f g [] ne ∙ sym (ap (one_fill g) free))
            (λ g ws ne e. let t = same_frame f g [] ws w.fill refl e in absurd (ne (sym t.0)))
            record {
              state = state Filling 0 0;
              word = (becomes, omega arith, omega arith);
              empty = λ _. (refl, refl);
              pins = λ p. sum_same (pins_with f p) s.views i v w at refl ∙ (ok.pins p ∙ (no_pins ok.state none_yet.0 p ∙ sym (no_pins (state Filling 0 0) refl p)));
              fills = omega arith;
              written = written_set z.words f i s.views v w row row
                  (λ ws e. let t = same_frame f f [] ws w.fill refl e in subst (λ (us : List ℕ). Begins z.words us row) t.1 (λ k l near. absurd (omega arith)))
                  (λ j u ws ne there e. ok.written j u ws there e);
              filled = λ h. absurd h;
            },
        ((λ _. (record { guard = subst (λ (y : State). Guard y Claim) (sym back) may; word = becomes; may = free; view = refl }, refl)), λ no. absurd (no hit)),
      ))
      (λ miss. (v, keeps, tt, stays z s r f i v me.1 at, ((λ hit. absurd (miss hit)), λ _. refl)))

  -- a store of the control word of f that ends its fill by the step k of the machine
  ends : (z : Geometry) (slots i : ℕ) (me : M) (f new : ℕ) (ws : List ℕ) (k : frame.Step) (next : State) → f < z.frames → me.0.fill ≡ Some (filling f ws) → IsWord new next → next.pins ≡ 0 → fillers_of next.phase ≡ 0 → (¬ HoldsPiece next.phase → next.piece ≡ 0)
      → (HoldsPiece next.phase → (row : ℕ → ℕ) → Begins z.words ws row → HasPiece told z.words next.piece row)
      → ((y : State) → y.phase ≡ Filling → Guard y k) → ((y : State) → after y k ≡ next) → May k f me.0 → view_after k f 0 me.0 ≡ duty me.0.shape me.0.pins None
      → Allows (Framed told z) slots i me f (λ _. new) (λ _. Ended k (step slots f new 0 none) me new)
  ends z slots i me f new ws k next inside fill is no_pin over piece full guard becomes may view s r _ at _ =
      let v : Duty = me.0 in let w : Duty = duty v.shape v.pins None in
      let row : ℕ → ℕ = λ m. get_or s.words (place z f m) 0 in
      let ok = kept z s r f inside in let was = fill_held told z.words f (get_or s.words f 0) row s.views i v ws ok at fill in
      let one : fills_on f v ≡ 1 = ap (one_fill f) fill ∙ one_here f ws in
      let sum = sum_set (fills_on f) s.views i v w at in let had : total (fills_on f) s.views ≡ 1 = ok.fills ∙ ap fillers_of was.0 in (
        w,
        keeps,
        tt,
        moves z s r f new i v w me.1 inside at (λ g p ne. refl) (λ g ne. sym (ap (one_fill g) fill ∙ one_else f g ws ne)) (λ g us ne e. absurd (no_fill w.fill (filling g us) refl e))
            record {
              state = next;
              word = is;
              empty = λ e. (piece e, no_pin);
              pins = λ p. sum_same (pins_with f p) s.views i v w at refl ∙ (ok.pins p ∙ (no_pins ok.state was.1 p ∙ sym (no_pins next no_pin p)));
              fills = let y : total (fills_on f) (set s.views i w) ≡ 0 = omega arith in y ∙ sym over;
              written = written_set z.words f i s.views v w row row (λ us e. absurd (no_fill w.fill (filling f us) refl e)) (λ j u us ne there e. ok.written j u us there e);
              filled = λ h. full h row (ok.written i v ws at fill);
            },
        (
          (
            get_or s.words f 0,
            record {
              guard = guard (state_at (get_or s.words f 0)) (ap (λ (y : State). y.phase) (ap state_at ok.word.0 ∙ state_at_word ok.state ok.word.2) ∙ was.0);
              word = is.0 ∙ ap control_word (sym (becomes (state_at (get_or s.words f 0))));
              may = may;
              view = sym view;
            },
          ),
          refl,
        ),
      )

  pub publishes : (z : Geometry) (slots i : ℕ) (me : M) (f new p : ℕ) (ws : List ℕ) → f < z.frames → me.0.fill ≡ Some (filling f ws) → IsWord new (state Ready p 0) → IsWhole told p me.0.fill
      → Allows (Framed told z) slots i me f (λ _. new) (λ _. published (step slots f new 0 none) me new)
  publishes z slots i me f new p ws inside fill is all =
      let piece : p ≡ (state_at new).piece = sym (ap (λ (y : State). y.piece) (ap state_at is.0 ∙ state_at_word (state Ready p 0) is.2)) in
      subst (λ (q : ℕ). Allows (Framed told z) slots i me f (λ _. new) (λ _. Ended (Publish q) (step slots f new 0 none) me new)) piece
      (ends z slots i me f new ws (Publish p) (state Ready p 0) inside fill is refl refl (λ e. absurd (e tt)) (λ _ row begun. whole told z.words f p ws me.0.fill fill all row begun)
      (λ y e. e) (λ y. refl) (ws, fill) refl)

  pub abandons : (z : Geometry) (slots i : ℕ) (me : M) (f new : ℕ) (ws : List ℕ) → f < z.frames → me.0.fill ≡ Some (filling f ws) → IsWord new (state Free 0 0)
      → Allows (Framed told z) slots i me f (λ _. new) (λ _. abandoned (step slots f new 0 none) me new)
  abandons z slots i me f new ws inside fill is =
      ends z slots i me f new ws Abandon (state Free 0 0) inside fill is refl refl (λ _. refl) (λ h. absurd h) (λ y e. e) (λ y. refl) (ws, fill) refl

  pub looks : (z : Geometry) (slots i : ℕ) (me : M) (f : ℕ) → f < z.frames → Allows (Framed told z) slots i me f (λ x. x) (looked (step slots f 0 0 none) me)
  looks z slots i me f inside s r _ at _ =
      let ok = kept z s r f inside in let is = ok.word in let small = number_small ok.state.phase in
      (me.0, keeps, tt, stays z s r f i me.0 me.1 at, (refl, omega arith))

  pub takes : (z : Geometry) (slots i : ℕ) (me : M) (f old new p : ℕ) (st : State) → f < z.frames → IsWord old st → Guard st (Take p) → new ≡ control_word (after st (Take p)) → p ≡ (state_at old).piece → pinned f me.0.pins ≡ None
      → Allows (Framed told z) slots i me f (λ x. either (eqb x old) new x) (took (step slots f old new none) me)
  takes z slots i me f old new p st inside is may becomes from free s r _ at _ =
      let x : ℕ = get_or s.words f 0 in let v : Duty = me.0 in let w : Duty = duty v.shape (pin f p ∷ v.pins) v.fill in
      let ok = kept z s r f inside in let row : ℕ → ℕ = λ k. get_or s.words (place z f k) 0 in
      exchanged x old new (λ (y : ℕ). (w' : Duty) × (a : Act (Unit {0})) × table.Valid s.homes me.1 a × Framed told z (stepped s f y i me.1 w' a) × took (step slots f old new none) me x (w', table.carried_after me.1 a))
      (λ hit.
      let same : ok.state ≡ st = one_state ok.state st ok.word.2 is.2 (sym ok.word.0 ∙ (hit ∙ is.0)) in
      let back : state_at x ≡ st = ap state_at (hit ∙ is.0) ∙ state_at_word st is.2 in (
        w,
        keeps,
        tt,
        moves z s r f new i v w me.1 inside at (λ g q ne. ap (one_at q) (pinned_else f g p v.pins (λ e. ne (sym e)))) (λ g ne. refl) (λ g us ne e. e)
            record {
              state = state st.phase st.piece (st.pins + 1);
              word = (becomes, is.1, let few = may.2 in omega arith);
              empty = λ e. absurd (e (subst HoldsPiece (sym may.0) tt));
              pins = λ q.
                  let was : pins_with f q v ≡ 0 = ap (one_at q) free in
                  let now : pins_with f q w ≡ one_if (eqb p q) = ap (one_at q) (pinned_here f p v.pins) in
                  let sum = sum_set (pins_with f q) s.views i v w at in
                  let had : total (pins_with f q) s.views ≡ pins_of st q = ok.pins q ∙ ap (λ (y : State). pins_of y q) same in
                  dite (ℕ_discrete st.piece q)
                  (λ e. let here : pins_of st q ≡ st.pins = rw (eq-eqb st.piece q e) refl in
                  let more : one_if (eqb p q) ≡ 1 = rw (eq-eqb p q (sym may.1 ∙ e)) refl in
                  rw (eq-eqb st.piece q e) (omega arith))
                  (λ ne. let here : pins_of st q ≡ 0 = rw (ne_eqb st.piece q ne) refl in
                  let more : one_if (eqb p q) ≡ 0 = rw (ne_eqb p q (λ e. ne (may.1 ∙ e))) refl in
                  rw (ne_eqb st.piece q ne) (omega arith));
              fills = sum_same (fills_on f) s.views i v w at refl ∙ (ok.fills ∙ ap (λ (y : State). fillers_of y.phase) same);
              written = written_set z.words f i s.views v w row row (λ us e. ok.written i v us at e) (λ j u us ne there e. ok.written j u us there e);
              filled = λ h. subst (λ (y : State). HasPiece told z.words y.piece row) same (ok.filled (subst (λ (y : State). HoldsPiece y.phase) (sym same) h));
            },
        (
          (λ _. (
            record {
              guard = subst (λ (t : State × ℕ). Guard t.0 (Take t.1)) (λ j. (sym back j, from j)) may;
              word = becomes ∙ ap (λ (y : State). control_word (after y (Take p))) (sym back);
              may = free;
              view = ap (λ (y : ℕ). duty v.shape (pin f y ∷ v.pins) v.fill) from;
            },
            refl,
          )),
          λ no. absurd (no hit),
        ),
      ))
      (λ miss. (v, keeps, tt, stays z s r f i v me.1 at, ((λ hit. absurd (miss hit)), λ _. refl)))

  pub marks : (z : Geometry) (slots i : ℕ) (me : M) (f old new : ℕ) (st : State) → f < z.frames → IsWord old st → Guard st Mark → new ≡ control_word (after st Mark)
      → Allows (Framed told z) slots i me f (λ x. either (eqb x old) new x) (marked (step slots f old new none) me)
  marks z slots i me f old new st inside is may becomes s r _ at _ =
      let x : ℕ = get_or s.words f 0 in let v : Duty = me.0 in
      let ok = kept z s r f inside in let row : ℕ → ℕ = λ k. get_or s.words (place z f k) 0 in
      exchanged x old new (λ (y : ℕ). (w' : Duty) × (a : Act (Unit {0})) × table.Valid s.homes me.1 a × Framed told z (stepped s f y i me.1 w' a) × marked (step slots f old new none) me x (w', table.carried_after me.1 a))
      (λ hit.
      let same : ok.state ≡ st = one_state ok.state st ok.word.2 is.2 (sym ok.word.0 ∙ (hit ∙ is.0)) in
      let back : state_at x ≡ st = ap state_at (hit ∙ is.0) ∙ state_at_word st is.2 in (
        v,
        keeps,
        tt,
        moves z s r f new i v v me.1 inside at (λ g q ne. refl) (λ g ne. refl) (λ g us ne e. e)
            record {
              state = state Marked st.piece st.pins;
              word = (becomes, is.1, is.2);
              empty = λ e. absurd (e tt);
              pins = λ q. sum_same (pins_with f q) s.views i v v at refl ∙ (ok.pins q ∙ ap (λ (y : State). pins_of y q) same);
              fills = sum_same (fills_on f) s.views i v v at refl ∙ (ok.fills ∙ (ap (λ (y : State). fillers_of y.phase) same ∙ ap fillers_of may));
              written = written_set z.words f i s.views v v row row (λ us e. ok.written i v us at e) (λ j u us ne there e. ok.written j u us there e);
              filled = λ h. subst (λ (y : State). HasPiece told z.words y.piece row) same (ok.filled (subst (λ (y : State). HoldsPiece y.phase) (sym same) (subst HoldsPiece (sym may) tt)));
            },
        (
          (
            (λ _. (
              record {
                guard = subst (λ (y : State). Guard y Mark) (sym back) may;
                word = becomes ∙ ap (λ (y : State). control_word (after y Mark)) (sym back);
                may = tt;
                view = refl;
              },
              refl,
            )),
            λ no. absurd (no hit),
          ),
          refl,
        ),
      ))
      (λ miss. (v, keeps, tt, stays z s r f i v me.1 at, (((λ hit. absurd (miss hit)), λ _. refl), refl)))

  pub releases : (z : Geometry) (slots i : ℕ) (me : M) (f p : ℕ) → f < z.frames → pinned f me.0.pins ≡ Some p
      → Allows (Framed told z) slots i me f (λ x. (x + (2 ^ 64 - 1)) % 2 ^ 64) (released (step slots f 1 0 none) me)
  releases z slots i me f p inside pins s r _ at fits =
      let x : ℕ = get_or s.words f 0 in let v : Duty = me.0 in let w : Duty = duty v.shape (unpinned f v.pins) v.fill in
      let row : ℕ → ℕ = λ k. get_or s.words (place z f k) 0 in
      let ok = kept z s r f inside in let st = ok.state in let held = pin_held told z.words f x row s.views i p v ok at pins in let some_pin = held.1 in
      let next : State = state st.phase st.piece (st.pins - 1) in
      let is = ok.word in
      let back : state_at x ≡ st = ap state_at is.0 ∙ state_at_word st is.2 in
      let less : (x + 18446744073709551615) % 18446744073709551616 ≡ control_word next = omega arith in (
        w,
        keeps,
        tt,
        moves z s r f ((x + 18446744073709551615) % 18446744073709551616) i v w me.1 inside at (λ g q ne. ap (one_at q) (unpinned_else f g v.pins (λ e. ne (sym e)))) (λ g ne. refl) (λ g us ne e. e)
            record {
              state = next;
              word = (less, is.1, omega arith);
              empty = λ e. let t = ok.empty e in (t.0, omega arith);
              pins = λ q.
                  let was : pins_with f q v ≡ one_if (eqb p q) = ap (one_at q) pins in
                  let now : pins_with f q w ≡ 0 = ap (one_at q) (unpinned_here f v.pins) in
                  let sum = sum_set (pins_with f q) s.views i v w at in
                  let had = ok.pins q in
                  dite (ℕ_discrete st.piece q)
                  (λ e. let here : pins_of st q ≡ st.pins = rw (eq-eqb st.piece q e) refl in
                  let more : one_if (eqb p q) ≡ 1 = rw (eq-eqb p q (sym held.0 ∙ e)) refl in
                  rw (eq-eqb st.piece q e) (omega arith))
                  (λ ne. let here : pins_of st q ≡ 0 = rw (ne_eqb st.piece q ne) refl in
                  let more : one_if (eqb p q) ≡ 0 = rw (ne_eqb p q (λ e. ne (held.0 ∙ e))) refl in
                  rw (ne_eqb st.piece q ne) (omega arith));
              fills = sum_same (fills_on f) s.views i v w at refl ∙ ok.fills;
              written = written_set z.words f i s.views v w row row (λ us e. ok.written i v us at e) (λ j u us ne there e. ok.written j u us there e);
              filled = λ h. ok.filled h;
            },
        (
          record {
            guard = subst (λ (y : State). Guard y Release) (sym back) (held.2, some_pin);
            word = let one_less : x - 1 ≡ control_word next = omega arith in one_less ∙ ap (λ (y : State). control_word (after y Release)) (sym back);
            may = subst (λ (o : Option ℕ). IsSome o) (sym pins) refl;
            view = refl;
          },
          refl,
        ),
      )

word_told : (told : Told) (width f k p : ℕ) (v : Duty) (row : ℕ → ℕ) → k < width → HasPiece told width p row → pinned f v.pins ≡ Some p → IsWordOf told v.pins f k (row k)
word_told None width f k p v row near h pins = tt
word_told (Some pieces) width f k p v row near h pins = λ q pins'.
    let same : p ≡ q = some_same p q (sym pins ∙ pins') in
    (h.0, subst (λ (m : ℕ). slice_get pieces m ≡ Some h.0) same h.1, λ l. h.2 k l near)

module _ (told : Told) where
  pub reads : (z : Geometry) (slots i : ℕ) (me : M) (f k p : ℕ) → f < z.frames → k < z.words → me.0.shape ≡ z → pinned f me.0.pins ≡ Some p
      → Allows (Framed told z) slots i me (place z f k) (λ x. x) (read_word told (step slots (place z f k) 0 0 none) me)
  reads z slots i me f k p inside near shape pins s r _ at _ =
      let row : ℕ → ℕ = λ m. get_or s.words (place z f m) 0 in
      let ok = kept told z s r f inside in let held = pin_held told z.words f (get_or s.words f 0) row s.views i p me.0 ok at pins in
      let told_here : IsWordOf told me.0.pins f k (row k) = word_told told z.words f k p me.0 row near (subst (λ (q : ℕ). HasPiece told z.words q row) held.0 (ok.filled held.2)) pins in (
        me.0,
        keeps,
        tt,
        stays told z s r (place z f k) i me.0 me.1 at,
        (
          refl,
          λ g m where_ close.
              let there : place z f k ≡ place z g m = where_ ∙ ap (λ (y : Geometry). place y g m) shape in
              let close' : m < z.words = subst (λ (y : Geometry). m < y.words) shape close in
              let t = same_from_place f k g m z.words near close' (omega arith) in
              let back : state_at (get_or s.words f 0) ≡ ok.state = ap state_at ok.word.0 ∙ state_at_word ok.state ok.word.2 in
              let moved : Moved Read f 0 (get_or s.words f 0) (get_or s.words f 0) me.0 me.0 = record {
                guard = subst (λ (y : State). Guard y Read) (sym back) (held.2, held.1);
                word = ok.word.0 ∙ ap control_word (sym back);
                may = subst (λ (o : Option ℕ). IsSome o) (sym pins) refl;
                view = refl;
              } in
              subst (λ (y : ℕ × ℕ). IsWordOf told me.0.pins y.0 y.1 (row k) × ((old : ℕ) × Moved Read y.0 0 old old me.0 me.0)) (λ j. (t.0 j, t.1 j)) (told_here, (get_or s.words f 0, moved)),
        ),
      )

  pub puts : (z : Geometry) (slots i : ℕ) (me : M) (f k x : ℕ) (ws : List ℕ) → f < z.frames → k < z.words → me.0.shape ≡ z → me.0.fill ≡ Some (filling f ws) → k ≡ length ws
      → Allows (Framed told z) slots i me (place z f k) (λ _. x) (λ _. wrote (step slots (place z f k) x 0 none) me x)
  puts z slots i me f k x ws inside near shape fill next s r _ at _ =
      let v : Duty = me.0 in let more : List ℕ = ws ++ x ∷ [] in let w : Duty = duty v.shape v.pins (Some (filling f more)) in
      let q : ℕ = place z f k in let wide = r.wide in
      let fits = mul-add-lt f z.words k z.frames inside near in
      let lt : q < length s.words = omega arith in
      let words' : List ℕ = set s.words q x in
      let row : ℕ → ℕ → ℕ = λ g m. get_or s.words (place z g m) 0 in
      let row' : ℕ → ℕ → ℕ = λ g m. get_or words' (place z g m) 0 in
      let ok = kept told z s r f inside in
      let was = fill_held told z.words f (get_or s.words f 0) (row f) s.views i v ws ok at fill in
      let one : fills_on f v ≡ 1 = ap (one_fill f) fill ∙ one_here f ws in
      let one' : fills_on f w ≡ 1 = one_here f more in
      let begun = ok.written i v ws at fill in
      let length' = length-append ws (x ∷ []) in
      let control : (g : ℕ) → g < z.frames → get_or words' g 0 ≡ get_or s.words g 0 = λ g l. get_or-set_other s.words q g x 0 (λ e. omega arith) in
      let apart : (g m : ℕ) → m < z.words → (g ≢ f) ⊎ (m ≢ k) → row' g m ≡ row g m = λ g m c other. get_or-set_other s.words q (place z g m) x 0
      (λ e. let t = same_from_place g m f k z.words c near (omega arith) in ⊎_elim (λ (n : g ≢ f). n t.0) (λ (n : m ≢ k). n t.1) other) in (
        w,
        keeps,
        tt,
        keeping told z (stepped s q x i me.1 w keeps) (length-set s.words q x ∙ r.wide)
            (λ g l. subst (λ (c : ℕ). FrameOk told z.words g c (row' g) (set s.views i w)) (sym (control g l)) (dite (ℕ_discrete g f)
            (λ e. subst (λ (y : ℕ). FrameOk told z.words y (get_or s.words y 0) (row' y) (set s.views i w)) (sym e) record {
              state = ok.state;
              word = ok.word;
              empty = ok.empty;
              pins = λ p. sum_same (pins_with f p) s.views i v w at refl ∙ ok.pins p;
              fills = sum_same (fills_on f) s.views i v w at (one' ∙ sym one) ∙ ok.fills;
              written = written_set z.words f i s.views v w (row f) (row' f)
                  (λ us e'. let t = same_frame told f f more us w.fill refl e' in subst (λ (ys : List ℕ). Begins z.words ys (row' f)) t.1
                  (λ m m_in m_near. dite (ℕ_discrete m k)
                  (λ here. subst (λ (y : ℕ). row' f y ≡ get_or more y 0) (sym here) (get_or-set_same s.words q x 0 lt ∙ sym (last_of ws x k next)))
                  (λ ne. apart f m m_near (inr ne) ∙ (begun m (omega arith) m_near ∙ sym (first_of ws x m (omega arith))))))
                  (λ j u us ne there e'.
                  let one'' : fills_on f u ≡ 1 = ap (one_fill f) e' ∙ one_here f us in
                  let two = sum_two (fills_on f) s.views i j v u ne at there spent refl in
                  let had : total (fills_on f) s.views ≡ 1 = ok.fills ∙ ap fillers_of was.0 in absurd (omega arith));
              filled = λ h. absurd (subst HoldsPiece was.0 h);
            })
            (λ ne. others told z.words (get_or s.words g 0) g (row g) (row' g) s.views i v w at (λ p. refl)
            (one_else told f g more ne ∙ sym (ap (one_fill g) fill ∙ one_else told f g ws ne))
            (λ us e. let t = same_frame told f g more us w.fill refl e in absurd (ne (sym t.0)))
            (λ m c. apart g m c (inl ne)) (kept told z s r g l)))),
        (
          (let back : state_at (get_or s.words f 0) ≡ ok.state = ap state_at ok.word.0 ∙ state_at_word ok.state ok.word.2 in (
            f,
            get_or s.words f 0,
            ws,
            fill,
            ap (λ (m : ℕ). place z f m) next ∙ ap (λ (y : Geometry). place y f (length ws)) (sym shape),
            record {
              guard = ap (λ (y : State). y.phase) back ∙ was.0;
              word = ok.word.0 ∙ ap control_word (sym back);
              may = (ws, fill);
              view = ap (λ (o : Option Fill). duty v.shape v.pins (grown x o)) (sym fill);
            },
          )),
          ap (λ (o : Option Fill). (duty v.shape v.pins (grown x o), me.1)) (sym fill),
        ),
      )
    where
      first_of : (l : List ℕ) (y m : ℕ) → m < length l → get_or (l ++ y ∷ []) m 0 ≡ get_or l m 0
      first_of [] y m h = absurd (omega arith)
      first_of (a ∷ l) y zero h = refl
      first_of (a ∷ l) y (suc m) h = first_of l y m (omega arith)

      last_of : (l : List ℕ) (y n : ℕ) → n ≡ length l → get_or (l ++ y ∷ []) n 0 ≡ y
      last_of [] y zero e = refl
      last_of [] y (suc n) e = absurd (omega arith)
      last_of (a ∷ l) y zero e = absurd (omega arith)
      last_of (a ∷ l) y (suc n) e = last_of l y n (omega arith)

  -- a berth more, with no pin and no fill
  pub splits : (z : Geometry) (i : ℕ) (v : Duty) (y : Geometry) → Splits (Framed told z) i v v (blank y)
  splits z i v y s r at = keeping told z record { words = s.words; homes = s.homes; views = set s.views i v ++ blank y ∷ [] } r.wide
      (λ g l. let ok = kept told z s r g l in let back = set_again s.views i v at in let row : ℕ → ℕ = λ m. get_or s.words (place z g m) 0 in
      subst (λ (vs : List Duty). FrameOk told z.words g (get_or s.words g 0) row (vs ++ blank y ∷ [])) (sym back) record {
        state = ok.state;
        word = ok.word;
        empty = ok.empty;
        pins = λ p. let more = sum_snoc (pins_with g p) s.views (blank y) in let had = ok.pins p in omega arith;
        fills = let more = sum_snoc (fills_on g) s.views (blank y) in let had = ok.fills in omega arith;
        written = λ j u ws there e. ⊎_elim (λ (h : get_elem? s.views j ≡ some u). ok.written j u ws h e)
            (λ (h : blank y ≡ u). absurd (no_fill told u.fill (filling g ws) (sym (ap (λ (d : Duty). d.fill) h)) e)) (at_snoc s.views (blank y) u j there);
        filled = ok.filled;
      })

  -- a berth without pins and fill is given back
  pub joins : (z : Geometry) (i : ℕ) (v : Duty) (j : ℕ) (w : Duty) → w.pins ≡ [] → w.fill ≡ None → Joins (Framed told z) i v j w v spent
  joins z i v j w pins fill s r at apart there =
      let back : set s.views i v ≡ s.views = set_again s.views i v at in
      let there' : get_elem? s.views j ≡ some w = subst (λ (vs : List Duty). get_elem? vs j ≡ some w) back there in
      subst (λ (vs : List Duty). Framed told z record { words = s.words; homes = s.homes; views = set vs j spent }) (sym back)
      (keeping told z record { words = s.words; homes = s.homes; views = set s.views j spent } r.wide
      (λ g l. let row : ℕ → ℕ = λ m. get_or s.words (place z g m) 0 in
      others told z.words (get_or s.words g 0) g row row s.views j w spent there'
      (λ p. sym (ap (λ (l : List Pin). one_at p (pinned g l)) pins)) (sym (ap (one_fill g) fill))
      (λ ws e. absurd (no_fill told spent.fill (filling g ws) refl e)) (λ k near. refl) (kept told z s r g l)))

  pub starts : (z : Geometry) → Framed told z (opening (replicate (z.frames + z.frames * z.words) 0) [] (blank z))
  starts z = let n : ℕ = z.frames + z.frames * z.words in keeping told z (opening (replicate n 0) [] (blank z)) (length-replicate n 0)
      (λ g l. subst (λ (c : ℕ). FrameOk told z.words g c (λ m. get_or (replicate n 0) (place z g m) 0) (blank z ∷ [])) (sym (get_or-replicate n g 0 0 (omega arith))) record {
        state = state Free 0 0;
        word = (refl, omega arith, omega arith);
        empty = λ _. (refl, refl);
        pins = λ p. sym (no_pins told (state Free 0 0) refl p);
        fills = refl;
        written = λ j u ws there e. absurd (only j u there (filling g ws) e);
        filled = λ h. absurd h;
      })
    where
      only : (j : ℕ) (u : Duty) → get_elem? (blank z ∷ []) j ≡ some u → (x : Fill) → u.fill ≡ Some x → ⊥
      only zero u there x e = no_fill told u.fill x (sym (ap (λ (d : Duty). d.fill) (some-injective (blank z) u there))) e
      only (suc j) u there x e = some-ne-none u (sym there)

  pub reads_at : (z : Geometry) (slots i : ℕ) (me : M) (q f k p : ℕ) → q ≡ place z f k → f < z.frames → k < z.words → me.0.shape ≡ z → pinned f me.0.pins ≡ Some p
      → Allows (Framed told z) slots i me q (λ x. x) (read_word told (step slots q 0 0 none) me)
  reads_at z slots i me q f k p e inside near shape pins =
      subst (λ (y : ℕ). Allows (Framed told z) slots i me y (λ x. x) (read_word told (step slots y 0 0 none) me)) (sym e) (reads z slots i me f k p inside near shape pins)

  pub puts_at : (z : Geometry) (slots i : ℕ) (me : M) (q f k x : ℕ) (ws : List ℕ) → q ≡ place z f k → f < z.frames → k < z.words → me.0.shape ≡ z → me.0.fill ≡ Some (filling f ws) → k ≡ length ws
      → Allows (Framed told z) slots i me q (λ _. x) (λ _. wrote (step slots q x 0 none) me x)
  puts_at z slots i me q f k x ws e inside near shape fill next =
      subst (λ (y : ℕ). Allows (Framed told z) slots i me y (λ _. x) (λ _. wrote (step slots y x 0 none) me x)) (sym e) (puts z slots i me f k x ws inside near shape fill next)
