-- Who notes at the bell that a worker sleeps or is awake, and what each step on the bell's words leaves of it.
use Rattle.std.specs.Prelude.{◌≡◌, ◌-◌, ℕ}
use Rattle.atomic_table.specs.Table.{Me, Step}
use Rattle.atomic_table.specs.Seated.{TableId}
use Rattle.baton.specs.declared.rest.Rest.{Rest}
use Rattle.baton.specs.declared.rest.Rest.TheVariants.{Idle, Heard, Lies, Cleared, Rings}

-- a ringer: of which bell it is, and what it has done
pub record RingerView : Type 0 where
  pub bell : TableId
  pub rest : Rest

-- a ringer of this bell that has done so
abbrev pub IsAt : TableId → RingerView → Rest → Type 0
IsAt bell r v = (r.bell ≡ bell) × (r.rest ≡ v)

-- it is to ring for this worker, or for nobody
abbrev pub MayRing : ℕ → Rest → Type 0
MayRing w Idle = Unit {0}
MayRing w (Heard u n) = ⊥
MayRing w (Lies u n) = ⊥
MayRing w (Cleared u n) = u ≡ w
MayRing w (Rings u n) = ⊥

-- it is to ring for nobody
abbrev pub OwesNoRing : Rest → Type 0
OwesNoRing Idle = Unit {0}
OwesNoRing (Heard u n) = Unit {0}
OwesNoRing (Lies u n) = Unit {0}
OwesNoRing (Cleared u n) = ⊥
OwesNoRing (Rings u n) = ⊥

-- who steps: what it has done, and no slot, since the bell has none
abbrev Seated : Type 0
Seated = Me (Unit {0}) Rest

abbrev Operation : Type 0
Operation = Step (Unit {0})

-- a load of the worker's rings
abbrev pub heard : Operation → Seated → ℕ → Seated → Type 0
heard st m found m' = m' ≡ (Heard st.word found, m.1)

-- who has heard so many rings lies down with them
abbrev pub lies_as : Rest → Rest
lies_as Idle = Idle
lies_as (Heard w n) = Lies w n
lies_as (Lies w n) = Lies w n
lies_as (Cleared w n) = Cleared w n
lies_as (Rings w n) = Rings w n

-- a store of the worker's query
abbrev pub lain : Operation → Seated → ℕ → Seated → Type 0
lain st m found m' = m' ≡ (lies_as m.0, m.1)

-- a swap of the worker's query with 0
abbrev pub cleared : Operation → Seated → ℕ → Seated → Type 0
cleared st m found m' = (m'.1 ≡ m.1) × MayRing (st.word - 32) m'.0 × (found ≡ 0 → m'.0 ≡ Idle)

-- a load of the worker's rings by who is to ring
abbrev pub counted : Operation → Seated → ℕ → Seated → Type 0
counted st m found m' = m' ≡ (Rings st.word found, m.1)

-- the rings become no less than so many
abbrev pub rang : Operation → Seated → ℕ → Seated → Type 0
rang st m found m' = m' ≡ (Idle, m.1)
