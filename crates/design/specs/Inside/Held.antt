-- The design that a file which reads means.
use Rattle.records.specs.Design.{Design}
use Rattle.design.specs.Heads.{numbers, design_by}
use Rattle.design.specs.declared.files.DesignFile.{DesignFile}

abbrev pub design_of : DesignFile → Design
design_of x = design_by (numbers x.head) x.file.now
