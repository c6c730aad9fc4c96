-- Going through tokens stops at the place, and a token may stand there where a step takes it.
use Rattle.std.proofs.Common.{◌≡◌, ◌<◌, ◌≤◌, ℕ, suc, ◌+◌, Bool, true, false, List, [], ◌∷◌, ◌++◌, length, take, Option, Some, None, inl, inr, refl, sym, ap, ◌∙◌, subst, arith}
use Rattle.std.specs.Prelude.{if◌then◌else◌, is_some}
use Rattle.std.proofs.lemmas.Bool.{false≢true}
use Rattle.std.proofs.lemmas.List.{append-nil}
use Rattle.sql_text.specs.declared.word.Sign.TheVariants as sign
use Rattle.table_core.specs.declared.op.Op.TheVariants as op
use Rattle.sql_text.specs.Grammar.{Token, Key, Symbol, Compares, Column, Number, Decimal, Text}
use Rattle.sql_text.specs.Reading.{choose}
use Rattle.sql_text.proofs.Tokens.{choose_ok, no_some}
use Rattle.inspect_places.specs.declared.kind.Kind.{Kind}
use Rattle.inspect_places.specs.declared.kind.Kind.TheVariants as kind
use Rattle.inspect_places.specs.declared.state.State.{State}
use Rattle.inspect_places.specs.declared.state.State.TheVariants as state
use Rattle.inspect_places.specs.declared.word.Size.TheVariants as size
use Rattle.inspect_places.specs.Kinds.{kind_of, size_of}
use Rattle.inspect_places.specs.Places.{AreQuery, Begin, IsPlace, CanStand}
use Rattle.inspect_places.specs.Steps.{step, takes, after, may_end, stands, stop_from}
use Rattle.inspect_places.proofs.Follow.{Follow}
use Rattle.inspect_places.proofs.Back.{Back, back}
use Rattle.inspect_places.proofs.Finish.{finish}
use Rattle.inspect_places.proofs.Whole.{whole, end_follows}
use Rattle.inspect_places.proofs.Forward.{run, query_runs}

pub same_some : {A : Type 0} (x y : A) → Some x ≡ Some y → x ≡ y
same_some x y e = cc

-- ---- what is gone through begins a query, and nothing else does

back_run : (l : Bool) (s m : State) (ts us : List Token) → run l s ts ≡ Some m → Follow l m us → Follow l s (ts ++ us)
back_run l s m [] us e f = subst (λ r. Follow l r us) (sym (same_some s m e)) f
back_run l s m (t ∷ ts) us e f = elim (choose_ok (after l s t) None (λ r. run l r ts) m e) [
  | inl d ↦ absurd (no_some m d.1)
  | inr d ↦ let b = subst (Back l s t) d.1 (back l s t) in b (ts ++ us) (back_run l d.0 m ts us d.2 f)
]

pub run_begins : (l : Bool) (m : State) (ts : List Token) → run l state.Start ts ≡ Some m → Begin l ts
run_begins l m ts e = let f = finish l m in (f.0, whole l (ts ++ f.0) (back_run l state.Start m ts f.0 e f.1))

pub run_cut : (l : Bool) (s r : State) (ts us : List Token) → run l s (ts ++ us) ≡ Some r → (m : State) × (run l s ts ≡ Some m)
run_cut l s r [] us e = (s, refl)
run_cut l s r (t ∷ ts) us e = elim (choose_ok (after l s t) None (λ r. run l r (ts ++ us)) r e) [
  | inl d ↦ absurd (no_some r d.1)
  | inr d ↦ let c = run_cut l d.0 r ts us d.2 in (c.0, rw d.1 c.1)
]

pub begins_run : (l : Bool) (ts : List Token) → Begin l ts → (m : State) × (run l state.Start ts ≡ Some m)
begins_run l ts b =
    let q = b.1 in let r = query_runs l q.0 q.2 in
    run_cut l state.Start r.0 ts b.0 (ap (run l state.Start) (sym q.1) ∙ r.1)

pub run_push : (l : Bool) (s m : State) (ts us : List Token) → run l s ts ≡ Some m → run l s (ts ++ us) ≡ run l m us
run_push l s m [] us e = ap (λ r. run l r us) (same_some s m e)
run_push l s m (t ∷ ts) us e = elim (choose_ok (after l s t) None (λ r. run l r ts) m e) [
  | inl d ↦ absurd (no_some m d.1)
  | inr d ↦ rw d.1 (run_push l d.0 m ts us d.2)
]

-- ---- the place

record Stops (l : Bool) (s : State) (ts : List Token) (k : ℕ) (m : State) : Type 0 where
  within : k ≤ length ts
  before : run l s (take k ts) ≡ Some m
  stop : k < length ts → run l s (take (k + 1) ts) ≡ None

more : (k : ℕ) → suc k + 1 ≡ suc (k + 1)
more k = omega arith

abbrev IsStop : Bool → ℕ → State → List Token → ℕ × State → Type 0
IsStop l n s ts r = (k : ℕ) × (r.0 ≡ n + k) × Stops l s ts k r.1

stop_here : (l : Bool) (n : ℕ) (s : State) (t : Token) (ts : List Token) → after l s t ≡ None → IsStop l n s (t ∷ ts) (n, s)
stop_here l n s t ts e = (0, omega arith, record { within = omega arith; before = refl; stop = λ h. rw e refl })

stop_later : (l : Bool) (n : ℕ) (s r : State) (t : Token) (ts : List Token) (x : ℕ × State) → after l s t ≡ Some r → IsStop l (n + 1) r ts x → IsStop l n s (t ∷ ts) x
stop_later l n s r t ts x e h =
    let k = h.0 in
    (suc k, omega (arith, h.1), record { within = omega (arith, h.2.within); before = rw e h.2.before; stop = λ g. (let a : k < length ts = omega (arith, g) in ap (λ j. run l s (take j (t ∷ ts))) (more k) ∙ (rw e (h.2.stop a))) })

by_step : (l : Bool) (n : ℕ) (s : State) (t : Token) (ts : List Token) (o : Option State) → after l s t ≡ o → ((r : State) → IsStop l (n + 1) r ts (stop_from l (n + 1) r ts)) → IsStop l n s (t ∷ ts) (choose o (n, s) (λ r. stop_from l (n + 1) r ts))
by_step l n s t ts None e later = stop_here l n s t ts e
by_step l n s t ts (Some r) e later = stop_later l n s r t ts (stop_from l (n + 1) r ts) e (later r)

stopped : (l : Bool) (n : ℕ) (s : State) (ts : List Token) → IsStop l n s ts (stop_from l n s ts)
stopped l n s [] = (0, omega arith, record { within = omega arith; before = refl; stop = λ h. absurd (omega (arith, h)) })
stopped l n s (t ∷ ts) = by_step l n s t ts (after l s t) refl (λ r. stopped l (n + 1) r ts)

at_start : (l : Bool) (ts : List Token) → Stops l state.Start ts (stop_from l 0 state.Start ts).0 (stop_from l 0 state.Start ts).1
at_start l ts =
    let x = stop_from l 0 state.Start ts in let h = stopped l 0 state.Start ts in let e : h.0 ≡ x.0 = omega (arith, h.1) in
    subst (λ k. Stops l state.Start ts k x.1) e h.2

-- the state behind the tokens before the place
pub at_stop : (l : Bool) (ts : List Token) → run l state.Start (take (stop_from l 0 state.Start ts).0 ts) ≡ Some (stop_from l 0 state.Start ts).1
at_stop l ts = (at_start l ts).before

pub place_is : (l : Bool) (ts : List Token) → IsPlace l ts (stop_from l 0 state.Start ts).0
place_is l ts =
    let x = stop_from l 0 state.Start ts in let h = at_start l ts in
    record { within = h.within; begin = run_begins l x.1 (take x.0 ts) h.before; stop = λ g b. (let r = begins_run l (take (x.0 + 1) ts) b in no_some r.0 (sym (h.stop g) ∙ r.1)) }

-- ---- what can stand there

pub takes_small : (l : Bool) (s : State) → takes l s size.Limit ≡ true
takes_small l (state.Compared p d) = refl
takes_small l (state.Minus p d) = refl
takes_small false state.Limit = refl
takes_small true state.Limit = refl
takes_small l s = refl

abbrev pub Taken : Bool → List Token → State → Type 0
Taken l before m = (t : Token) → Begin l (before ++ t ∷ [])
    → (takes l m (size_of t) ≡ true) × (is_some (step l m (kind_of t)) ≡ true)

abbrev pub GoesOn : Bool → List Token → State → Type 0
GoesOn l before m = (t : Token) → takes l m (size_of t) ≡ true → is_some (step l m (kind_of t)) ≡ true
    → Begin l (before ++ t ∷ [])

abbrev Stand : Bool → List Token → Kind → Type 0
Stand l before k = (t : Token) × (kind_of t ≡ k) × Begin l (before ++ t ∷ [])

module _ (l : Bool) (before : List Token) (m : State) (at : run l state.Start before ≡ Some m) where
  some_step : (k : Kind) (o : Option State) → step l m k ≡ o → is_some o ≡ true → (r : State) × (step l m k ≡ Some r)
  some_step k None e h = absurd (false≢true h)
  some_step k (Some r) e h = (r, e)

  sized : (b : Bool) (o : Option State) (r : State) → (if b then o else None) ≡ Some r → (b ≡ true) × (is_some o ≡ true)
  sized true o r e = (refl, ap is_some e)
  sized false o r e = absurd (no_some r e)

  -- a query goes on with a token just where the state takes its size and its kind
  pub is_taken : Taken l before m
  is_taken t b =
      let r = begins_run l (before ++ t ∷ []) b in
      let ran : run l m (t ∷ []) ≡ Some r.0 = sym (run_push l state.Start m before (t ∷ []) at) ∙ r.1 in
      elim (choose_ok (after l m t) None (λ r. run l r []) r.0 ran) [
        | inl d ↦ absurd (no_some r.0 d.1)
        | inr d ↦ sized (takes l m (size_of t)) (step l m (kind_of t)) d.0 d.1
      ]

  pub goes_on : GoesOn l before m
  goes_on t z h =
      let r = some_step (kind_of t) (step l m (kind_of t)) refl h in
      let goes : after l m t ≡ Some r.0 = rw z r.1 in
      let ran : run l m (t ∷ []) ≡ Some r.0 = rw goes refl in
      run_begins l r.0 (before ++ t ∷ []) (run_push l state.Start m before (t ∷ []) at ∙ ran)

  stand_by : (k : Kind) (t : Token) → kind_of t ≡ k → size_of t ≡ size.Limit → is_some (step l m k) ≡ true → Stand l before k
  stand_by k t e z h = (t, e, goes_on t (ap (takes l m) z ∙ takes_small l m) (ap (λ k. is_some (step l m k)) e ∙ h))

  by_stand : (k : Kind) → Stand l before k → is_some (step l m k) ≡ true
  by_stand k s = ap (λ k. is_some (step l m k)) (sym s.1) ∙ (is_taken s.0 s.2).1

  end_stands : may_end m ≡ true → AreQuery l before
  end_stands h = subst (AreQuery l) (append-nil before) (whole l (before ++ []) (back_run l state.Start m before [] at (end_follows l m h)))

  by_end : AreQuery l before → may_end m ≡ true
  by_end q =
      let r = query_runs l q.0 q.2 in
      let same : m ≡ r.0 = same_some m r.0 (sym at ∙ ap (run l state.Start) (sym q.1) ∙ r.1) in
      ap may_end same ∙ r.2

  pub can_stand : (k : Kind) → stands l m k ≡ true → CanStand l before k
  can_stand kind.End h = end_stands h
  can_stand (kind.Key k) h = stand_by (kind.Key k) (Key k) refl refl h
  can_stand kind.Open h = stand_by kind.Open (Symbol sign.Open) refl refl h
  can_stand kind.Close h = stand_by kind.Close (Symbol sign.Close) refl refl h
  can_stand kind.Comma h = stand_by kind.Comma (Symbol sign.Comma) refl refl h
  can_stand kind.Star h = stand_by kind.Star (Symbol sign.Star) refl refl h
  can_stand kind.Minus h = stand_by kind.Minus (Symbol sign.Minus) refl refl h
  can_stand kind.Comparison h = stand_by kind.Comparison (Compares op.Eq) refl refl h
  can_stand kind.Name h = stand_by kind.Name (Column []) refl refl h
  can_stand kind.Number h = stand_by kind.Number (Number 0) refl refl h
  can_stand kind.Decimal h = stand_by kind.Decimal (Decimal 0 0) refl refl h
  can_stand kind.Text h = stand_by kind.Text (Text []) refl refl h

  pub stands_if : (k : Kind) → CanStand l before k → stands l m k ≡ true
  stands_if kind.End h = by_end h
  stands_if k h = by_stand k h

pub can_stand_at : (l : Bool) (ts : List Token) (k : Kind) → stands l (stop_from l 0 state.Start ts).1 k ≡ true → CanStand l (take (stop_from l 0 state.Start ts).0 ts) k
can_stand_at l ts k h = let x = stop_from l 0 state.Start ts in can_stand l (take x.0 ts) x.1 (at_stop l ts) k h

pub stands_at : (l : Bool) (ts : List Token) (k : Kind) → CanStand l (take (stop_from l 0 state.Start ts).0 ts) k → stands l (stop_from l 0 state.Start ts).1 k ≡ true
stands_at l ts k h = let x = stop_from l 0 state.Start ts in stands_if l (take x.0 ts) x.1 (at_stop l ts) k h
