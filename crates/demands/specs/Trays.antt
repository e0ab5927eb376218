-- What every call leaves in the tray that it is lent: the bytes of an answer stand over its start; all else stays.
use Rattle.std.specs.Prelude.{Result, ◌≡◌, List, ◌≢◌, ℕ, length, drop}
use Rattle.shape.specs.declared.Lengths.{Lengths}
use Rattle.words.specs.Says.{RotationSays, TurnSays}
use Rattle.ranking.specs.Says.{RankSays, WordSays}
use Rattle.marks.specs.Says.{MarkOn, PlaceSays, ShortPlaceSays, PrintOn}
use Rattle.pbm.specs.Pictures.{file_size}
use Rattle.pictures.specs.Says.{PictureSays, BothSay}
use Rattle.lookups.specs.Says.{answer_size, LookupSays, SmudgedSays}
use Rattle.misreadings.specs.Says.{list_size, MisreadingsSays, MisreadingListSays}
use Rattle.bills.specs.Says.{BillOfSays}
use Rattle.calls.specs.declared.refusal.Refusal.{Refusal}
use Rattle.calls.specs.Codes.{number_of}

-- with an answer of b bytes: a refusal leaves the tray as it was, its length never changes, and the bytes after the first b stay
abbrev pub Keeps : ℕ → List ℕ → List ℕ → ℕ → Type 0
Keeps b t t' r = (r ≢ 0 → t' ≡ t) × (length t' ≡ length t) × (drop b t' ≡ drop b t)

pub record Trays : Type 0 where
  pub smallest_rotation : (k n : ℕ) (w t t' : List ℕ) (r : Result ℕ Refusal) → RotationSays k n w t t' r → Keeps n t t' (number_of r)
  pub turn_of : (k n : ℕ) (w t t' : List ℕ) (r : ℕ) → TurnSays k n w t t' r → Keeps 8 t t' r
  pub rank_of : (k n : ℕ) (w t t' : List ℕ) (r : ℕ) → RankSays k n w t t' r → Keeps 8 t t' r
  pub word_of_lem : (k n i : ℕ) (t t' : List ℕ) (r : ℕ) → WordSays k n i t t' r → Keeps n t t' r
  -- on either ring
  pub mark_at_lem : (lengths : Lengths) (k n p : ℕ) (t t' : List ℕ) (r : ℕ) → MarkOn lengths k n p t t' r → Keeps 8 t t' r
  pub place_of_lem : (k n : ℕ) (w t t' : List ℕ) (r : ℕ) → PlaceSays k n w t t' r → Keeps 8 t t' r
  pub short_place_of_lem : (k n : ℕ) (w t t' : List ℕ) (r : ℕ) → ShortPlaceSays k n w t t' r → Keeps 8 t t' r
  pub print_marks : (lengths : Lengths) (k n p c : ℕ) (t t' : List ℕ) (r : ℕ) → PrintOn lengths k n p c t t' r → Keeps c t t' r
  pub print_picture : (k n p c h : ℕ) (t t' : List ℕ) (r : Result ℕ Refusal) → PictureSays k n p c h t t' r → Keeps (file_size c h) t t' (number_of r)
  pub picture_of : (k n p c h : ℕ) (s s' t t' : List ℕ) (r : ℕ) → BothSay k n p c h s s' t t' r → Keeps 8 s s' r × Keeps (file_size c h) t t' r
  pub look_up : (s w t t' : List ℕ) (r : ℕ) → LookupSays s w t t' r → Keeps answer_size t t' r
  pub look_up_smudged : (s w t t' : List ℕ) (r : ℕ) → SmudgedSays s w t t' r → Keeps answer_size t t' r
  pub misreadings : (s w t t' : List ℕ) (r : Result ℕ Refusal) → MisreadingsSays s w t t' r → Keeps (list_size s w) t t' (number_of r)
  pub misreadings_of : (s w c c' t t' : List ℕ) (r : ℕ) → MisreadingListSays s w c c' t t' r → Keeps 8 c c' r × Keeps (list_size s w) t t' r
  pub bill_of : (s : List ℕ) (p c : ℕ) (t t' : List ℕ) (r : ℕ) → BillOfSays s p c t t' r → Keeps 8 t t' r
