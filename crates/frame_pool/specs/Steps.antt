-- What each atomic step on the pool's table tells the berth that made it.
use Rattle.std.specs.Prelude.{◌≡◌, ◌≢◌, ℕ, ◌+◌, ◌-◌, ◌*◌, ◌^◌, ◌<◌, List, [], ◌∷◌}
use Rattle.std.specs.Prelude.{length, slice_index, slice_get, Some, None, IsSome}
use Rattle.atomic_table.specs.Table.{Me, Step}
use Rattle.frame_core.specs.declared.step.Step as frame
use Rattle.frame_core.specs.declared.step.Step.TheVariants.{Take, Release, Mark, Claim, Put, Publish, Abandon, Read}
use Rattle.frame_core.specs.Machine.{Guard, after}
use Rattle.frame_core.specs.Words.{control_word, state_at}
use Rattle.frame_pool.specs.declared.view.Pin.{Pin}
use Rattle.frame_pool.specs.declared.view.Duty.{Duty}
use Rattle.frame_pool.specs.Views.{pin, filling, grown, pinned, unpinned}
use Rattle.frame_pool.specs.Frames.{Told, place}

-- what the machine asks of the berth that takes the step on the frame f
abbrev pub May : frame.Step → ℕ → Duty → Type 0
May (Take p) f v = pinned f v.pins ≡ None
May Release f v = IsSome (pinned f v.pins)
May Mark f v = Unit {0}
May Claim f v = v.fill ≡ None
May Put f v = (ws : List ℕ) × (v.fill ≡ Some (filling f ws))
May (Publish p) f v = (ws : List ℕ) × (v.fill ≡ Some (filling f ws))
May Abandon f v = (ws : List ℕ) × (v.fill ≡ Some (filling f ws))
May Read f v = IsSome (pinned f v.pins)

-- the berth's view after its step on the frame f; x is the word that a put writes
abbrev pub view_after : frame.Step → ℕ → ℕ → Duty → Duty
view_after (Take p) f x v = record v { pins = pin f p ∷ v.pins }
view_after Release f x v = record v { pins = unpinned f v.pins }
view_after Mark f x v = v
view_after Claim f x v = record v { fill = Some (filling f []) }
view_after Put f x v = record v { fill = grown x v.fill }
view_after (Publish p) f x v = record v { fill = None }
view_after Abandon f x v = record v { fill = None }
view_after Read f x v = v

-- the berth took this step of the frame's machine: the frame's control word went from old to new, its view from v to w
pub record Moved (s : frame.Step) (f x old new : ℕ) (v w : Duty) : Type 0 where
  pub guard : Guard (state_at old) s
  pub word : new ≡ control_word (after (state_at old) s)
  pub may : May s f v
  pub view : w ≡ view_after s f x v

-- a berth's seat on the table: its view, and the slots that it holds, of which there are none
abbrev Sat : Type 0
Sat = Me (Unit {0}) Duty

-- an operation on one word of the table
abbrev Operation : Type 0
Operation = Step (Unit {0})

-- a load of a control word changes nothing
abbrev pub looked : Operation → Sat → ℕ → Sat → Type 0
looked st m found m' = (m' ≡ m) × (found < 2 ^ 50)

-- a compare and exchange of a control word takes the step where it wins, and changes nothing where it loses
abbrev pub Won : frame.Step → Operation → Sat → ℕ → Sat → Type 0
Won s st m found m' = (found ≡ st.first → Moved s st.word 0 found st.second m.0 m'.0 × (m'.1 ≡ m.1))
    × (found ≢ st.first → m' ≡ m)

-- pin: the piece is that of the word that was expected
abbrev pub took : Operation → Sat → ℕ → Sat → Type 0
took st m found m' = Won (Take (state_at st.first).piece) st m found m'

-- unpin: a fetch and subtract of 1
abbrev pub released : Operation → Sat → ℕ → Sat → Type 0
released st m found m' = Moved Release st.word 0 found (found - 1) m.0 m'.0 × (m'.1 ≡ m.1)

abbrev pub marked : Operation → Sat → ℕ → Sat → Type 0
marked st m found m' = Won Mark st m found m' × (m' ≡ m)

abbrev pub claimed : Operation → Sat → ℕ → Sat → Type 0
claimed st m found m' = Won Claim st m found m'

-- a store of a control word ends the fill by this step
abbrev pub Ended : frame.Step → Operation → Sat → ℕ → Sat → Type 0
Ended s st m found m' = ((old : ℕ) × Moved s st.word 0 old st.first m.0 m'.0) × (m' ≡ (record m.0 { fill = None }, m.1))

-- publish: the piece is that of the word that was stored
abbrev pub published : Operation → Sat → ℕ → Sat → Type 0
published st m found m' = Ended (Publish (state_at st.first).piece) st m found m'

abbrev pub abandoned : Operation → Sat → ℕ → Sat → Type 0
abandoned st m found m' = Ended Abandon st m found m'

-- put: a store of the next data word of the frame that the berth fills
abbrev pub wrote : Operation → Sat → ℕ → Sat → Type 0
wrote st m found m' =
    ((f : ℕ) × (old : ℕ) × (ws : List ℕ) × (m.0.fill ≡ Some (filling f ws)) × (st.word ≡ place m.0.shape f (length ws))
    × Moved Put f st.first old old m.0 m'.0)
    × (m' ≡ (record m.0 { fill = grown st.first m.0.fill }, m.1))

-- where the content is told, x is the word i of the piece with which the frame f is pinned
abbrev pub IsWordOf : Told → List Pin → ℕ → ℕ → ℕ → Type 0
IsWordOf None pins f i x = Unit {0}
IsWordOf (Some pieces) pins f i x = (p : ℕ) → pinned f pins ≡ Some p → (ws : List ℕ) × (slice_get pieces p ≡ Some ws)
    × (i < length ws → x ≡ slice_index ws i)

-- where the content is told, these words are the word `first` of the piece and each word `step` further on
abbrev pub AreWordsOf : Told → List Pin → ℕ → ℕ → ℕ → List ℕ → Type 0
AreWordsOf told pins f first step words = (k : ℕ) → k < length words
    → IsWordOf told pins f (first + k * step) (slice_index words k)

-- read: a load of a data word of a frame that the berth pins
abbrev pub read_word : Told → Operation → Sat → ℕ → Sat → Type 0
read_word told st m found m' =
    (m' ≡ m)
    × ((f i : ℕ) → st.word ≡ place m.0.shape f i → i < m.0.shape.words → IsWordOf told m.0.pins f i found
    × ((old : ℕ) × Moved Read f 0 old old m.0 m.0))
