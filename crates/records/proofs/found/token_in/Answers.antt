-- The token by its number, if the words are its record.
use Rattle.std.proofs.Common.{rules}
use Rattle.std.proofs.lemmas.Bool.Decides.{Decides-eqb}
use Rattle.std.proofs.lemmas.Slice.Eq.{slice_eq-Decides}
use Rattle.records.proofs.Strict.{its_token}
use Rattle.records.proofs.found.token_in.Goals as goal

pub returns : goal.returns
returns c = its_token c.args.w _ _ c.token_by_number.ensures (λ t b k. search (rules, slice_eq-Decides, Decides-eqb)) c.filter.ensures
