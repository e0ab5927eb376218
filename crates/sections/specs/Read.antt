-- What is read from a plan's bytes.
use Rattle.theory.specs.Plans.{Section}
use Rattle.sections.specs.declared.Section as DX

-- the numbers of a section, as they were read
abbrev pub section_of : DX.Section → Section
section_of x = record { offset = x.offset; long = x.long; rail = x.rail }
