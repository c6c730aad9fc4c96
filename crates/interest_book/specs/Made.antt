-- What a book is made for.
use Rattle.std.specs.Prelude.{◌≡◌, ℕ, List, [], map}
use Rattle.scan_story.specs.declared.setting.Setting.{Setting}
use Rattle.scan_story.specs.declared.setting.PolicyName.TheVariants.{Relevance}
use Rattle.chunk_interest.specs.declared.need.Need.{Need}
use Rattle.chunk_interest.specs.Fresh.{as_need}

-- the setting of a book; a book doesn't know the policy
abbrev pub made_for : List Need → ℕ → ℕ → ℕ → ℕ → Setting
made_for needs chunks workers frames groups = record {
  needs = map as_need needs;
  chunks = chunks;
  workers = workers;
  frames = frames;
  groups = groups;
  policy = Relevance;
  cursor = [];
}

-- the setting is that of the book, under some policy and cursor
pub record IsMadeFor (s : Setting) (ns : List Need) (c w f g : ℕ) : Type 0 where
  pub needs : map as_need ns ≡ s.needs
  pub chunks : c ≡ s.chunks
  pub workers : w ≡ s.workers
  pub frames : f ≡ s.frames
  pub groups : g ≡ s.groups
