-- What the reader answers, as a reading and by the layout.
use Rattle.std.specs.Prelude.{Result, Ok, Err}
use Rattle.design.specs.Layout.{Layout, refused_layout}
use Rattle.design.specs.Heads.{laid}
use Rattle.design.specs.Reading.{Reading, refused, means}
use Rattle.design.specs.Inside.Held.{design_of}
use Rattle.design.specs.declared.files.DesignFile.{DesignFile}
use Rattle.design.specs.declared.errors.ReadError.{ReadError}
use Rattle.reasons.specs.Numbers.{number}
use Rattle.design.specs.Errors.{fault_reason}

abbrev pub reading_of : Result DesignFile ReadError → Reading
reading_of (Ok d) = means (design_of d)
reading_of (Err e) = refused (number (fault_reason e.fault)) e.place

abbrev pub layout_read : Result DesignFile ReadError → Layout
layout_read (Ok d) = laid d.head d.starts
layout_read (Err e) = refused_layout (number (fault_reason e.fault)) e.place
