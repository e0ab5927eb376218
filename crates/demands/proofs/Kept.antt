-- The promise, whole.
use mathlib.Core.Path.{sym, ◌∙◌}
use Rattle.theory.proofs.Theorems.{theorems}
use Rattle.pbm.proofs.Pictures.{pictures}
use Rattle.listing.proofs.Alike.{same-listing}
use Rattle.sheets.proofs.Sheets.{sheets}
use Rattle.demands.specs.Demands.{Demands}
use Rattle.demands.proofs.Trays.{trays, no_value, no_value_beside, number_back}
use Rattle.demands.proofs.Refused.{refusals}
use Rattle.demands.proofs.Words.{lyndon, rotation, turn, root_told, count, ranked, sheet_ranked, unranked, word_back, rank-back}
use Rattle.demands.proofs.Marks.{marked, placed, place_back, window-back, short_placed, short_repeats, short_place_back, short_window-back, printed}
use Rattle.demands.proofs.Pictures.{picture-back, picture_both, picture_by_rows}
use Rattle.demands.proofs.Walking.{started, not_started, stands, step, not_stepped, undone, short_good, walk, both_ways}
use Rattle.demands.proofs.Laying.{laid, laid_across, laid_only, smudged, smudged_only, smudged_lowest, smudged_bytes, smudged_plain}
use Rattle.demands.proofs.Billing.{billed_told, bill_both, bill_same}
use Rattle.demands.proofs.Misread.{misread_told, misread_answers, misread_both}

pub demands : Demands
demands = record {
  theorems = theorems;
  refusals = refusals;
  trays = trays;
  no_value = no_value;
  no_value_beside = no_value_beside;
  number_back = number_back;
  lyndon = λ k n w r a e m f. lyndon k n w a e m r f;
  rotation = λ k n w t t' r a e m x f. rotation k n w a e m t t' r x f;
  turn = λ k n w t t' r a e m x f. turn k n w a e m t t' r x f;
  root = λ k n w r a e m f. root_told k n w a e m r f;
  count = count;
  ranked = λ k n w t t' r a e m x f. let (number, _, told) = ranked k n w a e m t t' r x f in (number, told);
  unranked = unranked;
  word_back = word_back;
  rank-back = rank-back;
  sheets = sheets;
  sheet_ranked = λ k n w t t' r a e m. sheet_ranked k n w a e m t t' r;
  marked = marked;
  placed = placed;
  place_back = place_back;
  window-back = window-back;
  short_placed = short_placed;
  short_repeats = short_repeats;
  short_place_back = short_place_back;
  short_window-back = short_window-back;
  printed = printed;
  pictures = pictures;
  picture-back = λ n p c h t t' u u' r q a l frame x y e f. picture-back n p c h a l frame t t' u u' r q x y e f;
  picture_both = λ n p c h s s' t t' r a l frame x y e. picture_both n p c h a l frame s s' t t' r x y e;
  picture_by_rows = picture_by_rows;
  started = started;
  not_started = not_started;
  stands = stands;
  step = step;
  not_stepped = not_stepped;
  undone = undone;
  short_good = short_good;
  walk = walk;
  both_ways = both_ways;
  same-listing = same-listing;
  laid = laid;
  laid_across = laid_across;
  laid_only = laid_only;
  smudged = smudged;
  smudged_only = smudged_only;
  smudged_lowest = λ s w t t' r q e z. smudged_lowest s w t t' r e z q;
  smudged_same = λ s w t t' u u' r q e f z y. smudged_bytes s w t t' r e z ∙ sym (smudged_bytes s w u u' q f y);
  smudged_plain = smudged_plain;
  misread = misread_told;
  misread_answers = misread_answers;
  misread_both = misread_both;
  billed = billed_told;
  bill_both = bill_both;
  bill_same = bill_same;
}
