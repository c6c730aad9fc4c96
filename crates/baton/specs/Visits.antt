-- A guest of the lobby, and what each of its steps on the lobby's words leaves of it.
use Rattle.std.specs.Prelude.{◌≡◌, ◌≢◌, ℕ}
use Rattle.atomic_table.specs.Table.{Me, Step}
use Rattle.atomic_table.specs.Seated.{TableId}
use Rattle.baton.specs.declared.standing.Standing.{Standing}
use Rattle.baton.specs.declared.standing.Standing.TheVariants.{Out, Read, Entered, Taken}

-- a guest: of which lobby it is, how often somebody was called until it came, and what it has done
pub record GuestView : Type 0 where
  pub lobby : TableId
  pub calls : ℕ
  pub standing : Standing

-- a guest of this lobby that has done so
abbrev pub Stands : TableId → GuestView → Standing → Type 0
Stands lobby g v = (g.lobby ≡ lobby) × (g.standing ≡ v)

-- it has called whom it took away, if anybody
abbrev pub OwesNoCall : Standing → Type 0
OwesNoCall v = v ≢ Taken

-- who steps: what it has done, and no slot, since the lobby has none
abbrev Seated : Type 0
Seated = Me (Unit {0}) Standing

abbrev Operation : Type 0
Operation = Step (Unit {0})

-- a load of the calls
abbrev pub came : Operation → Seated → ℕ → Seated → Type 0
came st m found m' = m' ≡ (Read found, m.1)

-- a compare and exchange leaves the standing w where it wins, and what was where it loses
abbrev pub Won : Standing → Operation → Seated → ℕ → Seated → Type 0
Won w st m found m' = (found ≡ st.first → m' ≡ (w, m.1)) × (found ≢ st.first → m' ≡ m)

-- who has read so many calls enters with them
abbrev pub enters_as : Standing → Standing
enters_as Out = Out
enters_as (Read n) = Entered n
enters_as (Entered n) = Entered n
enters_as Taken = Taken

abbrev pub entered : Operation → Seated → ℕ → Seated → Type 0
entered st m found m' = Won (enters_as m.0) st m found m'

abbrev pub took_one : Operation → Seated → ℕ → Seated → Type 0
took_one st m found m' = Won Taken st m found m'

abbrev pub raised : Operation → Seated → ℕ → Seated → Type 0
raised st m found m' = Won Out st m found m'
