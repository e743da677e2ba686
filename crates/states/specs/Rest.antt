-- The rest of a text from a place on, which a reader is lent as `&text[at..]`: its places are counted from there.
use Rattle.std.specs.Prelude.{◌+◌, ◌-◌, ◌<◌, ◌^◌, ℕ, List, ◌≡◌, drop, get_or, length, take}
use Rattle.std.proofs.Common.{ap, arith, length-drop, drop-drop, get_or-drop}
use Rattle.chars.specs.declared.mark.Place.{Place}
use Rattle.chars.specs.View.{Stands, view}
use Rattle.rooms.specs.Room.{rest_whole}
use Rattle.reading.specs.Reading.{ReaderGiven, Indicated, first_at}
use Rattle.states.specs.State.{behind_of}

abbrev pub rest_at : List ℕ → Place → List ℕ
rest_at text p = take (length text - p.at) (drop p.at text)

pub is_rest : (text : List ℕ) (p : Place) → rest_at text p ≡ drop p.at text
is_rest text p = rest_whole p.at text

module _ {rest : List ℕ} (text : List ℕ) (p : Place) (e : rest ≡ drop p.at text) where
  -- its first place is the place
  pub rest_view : view rest (first_at p.mark) ≡ view text p
  rest_view = rw e

  pub rest_stands : Stands text p → Stands rest (first_at p.mark)
  rest_stands h =
      let l = ap length e in
      let k = length-drop p.at text in
      record { within = omega arith; index = omega (arith, h); line = h.line; col = h.col }

  -- and a place of it is one of the text
  pub behind_view : (q : Place) → view text (behind_of p q) ≡ view rest q
  behind_view q = rw (e, drop-drop q.at p.at text)

  pub behind_stands : {q : Place} → Stands text p → Stands rest q → Stands text (behind_of p q)
  behind_stands h k =
      let l = ap length e in
      let m = length-drop p.at text in
      record { within = omega (arith, h, k); index = omega (arith, h, k); line = k.line; col = k.col }

  -- the sum wraps nowhere
  pub behind_fits : {q : Place} → Stands text p → Stands rest q → length text < 2 ^ 63 → p.at + q.at < 2 ^ 63
  behind_fits h k n =
      let l = ap length e in
      let m = length-drop p.at text in
      omega (arith, h, k)

  -- what readers ask for

  pub rest_given : {used : ℕ} → Stands text p → used < 2 ^ 31 → ReaderGiven rest p.mark used
  rest_given h u = record { stands = rest_stands h; room = u }

  pub rest_indicated : {used : ℕ} → Stands text p → used < 2 ^ 31 → p.at < length text → get_or text p.at 0 < 128 → Indicated rest p.mark used
  rest_indicated h u l b =
      let n = ap length e in
      let m = length-drop p.at text in
      let z : p.at + 0 ≡ p.at = omega arith in
      record { given = rest_given h u; some = omega arith; ascii = rw (e, get_or-drop p.at text 0 0, z) b }
