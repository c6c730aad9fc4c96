use Rattle.inspect_picture.proofs.Windows.{all_shown, window}
use Rattle.inspect_picture.proofs.whole_pictures.windows_are_parts.Goals as goal

pub returns-clause-window : goal.returns-clause-window
returns-clause-window c = window

pub returns-clause-whole : goal.returns-clause-whole
returns-clause-whole c = all_shown
