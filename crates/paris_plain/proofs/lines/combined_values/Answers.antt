use Rattle.std.proofs.Common.{◌≡◌, ◌∙◌, ap}
use Rattle.paris_model.specs.Lines.{line_length}
use Rattle.paris_plain.proofs.lines.combined_values.Goals as goal

pub returns-in-Scan : goal.returns-in-Scan
returns-in-Scan c =
    let same : c.line_length-length.result ≡ c.in-Scan.length = c.line_length-length.ensures ∙ ap line_length c.in-Scan.is in
    rw (c.in-Scan.is, ← same) c.scan_values.ensures

pub returns-in-CopyScan : goal.returns-in-CopyScan
returns-in-CopyScan c =
    let same : c.line_length-length.result ≡ c.in-CopyScan.length = c.line_length-length.ensures ∙ ap line_length c.in-CopyScan.is in
    rw (c.in-CopyScan.is, ← same) c.scan_values-in-CopyScan.ensures
