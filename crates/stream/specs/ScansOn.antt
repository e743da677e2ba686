-- A call that has to scan: the slot that may wait goes to the front, steps are made, and what they come to is held.
use Rattle.std.specs.Prelude.{ℕ, true, List, ◌≡◌, length, Result, Ok, Err}
use Rattle.yaml_text.specs.declared.Refusal.{Refusal}
use Rattle.yaml_scan.specs.declared.Limits.{Limits}
use Rattle.driver.specs.declared.Outcome.{Outcome}
use Rattle.driver.specs.declared.Outcome.TheVariants.{Ready, Scanned}
use Rattle.driver.specs.Drives.{Drives}
use Rattle.stream.specs.Words.{close_held, front_held, front_words, put_refusal}

-- what is held then, the steps having left h
abbrev pub then_held : List ℕ → Result Outcome Refusal → List ℕ
then_held h (Ok (Scanned m)) = close_held h m
then_held h (Ok Ready) = h
then_held h (Err f) = put_refusal h f

pub record ScansOn (limits : Limits) (text h l b h' l' b' : List ℕ) : Type 0 where
  pub outcome : Result Outcome Refusal
  -- behind the steps
  pub held : List ℕ
  pub steps : Drives limits true text (front_held h) (front_words h l) b held l' b' outcome
  pub same_words : length l' ≡ length (front_words h l)
  pub same_bytes : length b' ≡ length b
  pub then : h' ≡ then_held held outcome
