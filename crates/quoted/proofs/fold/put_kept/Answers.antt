-- One law of what is kept back for each mode.
use Rattle.quoted.proofs.Folds.{kept_blanks, kept_folded, kept_joined, kept_none}
use Rattle.quoted.proofs.fold.put_kept.Goals as goal

pub returns-in-Chars : goal.returns-in-Chars
returns-in-Chars c = kept_none _ c.in-Chars.is

pub returns-in-Blanks : goal.returns-in-Blanks
returns-in-Blanks c = kept_blanks c.in-Blanks.is c.requires.0 c.requires.1 c.copy.ensures

pub returns-in-Folded : goal.returns-in-Folded
returns-in-Folded c = kept_folded c.in-Folded.is c.put_fold.ensures

pub returns-in-Joined : goal.returns-in-Joined
returns-in-Joined c = kept_joined c.in-Joined.is c.put_breaks.ensures
