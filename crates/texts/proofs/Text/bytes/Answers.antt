-- Bytes as they are.
use Rattle.std.proofs.Common.{rules}
use Rattle.std.proofs.lemmas.Slice.{overwrites}
use Rattle.texts.proofs.Text.bytes.Goals as goal

pub returns : goal.returns
returns c =
    record {
      adds = record { ends = search (rules, overwrites); stands = search (rules, overwrites); behind = search (rules, overwrites) };
      whole = search (rules, overwrites);
      same_buffer = search (rules, overwrites);
    }
