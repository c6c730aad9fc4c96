use Rattle.relevance.proofs.Chosen.{most_cached}
use Rattle.relevance.proofs.ranks.most_room.Goals as goal

pub returns : goal.returns
returns c = λ s h q x st. most_cached s h x c.cached.result c.missing.result c.saturating_add.result st.setting (c.cached.ensures.number s h st) (c.missing.ensures s h st) c.saturating_add.ensures
