-- Forms whose numbers can be written.
use Rattle.std.specs.Prelude.{◌≤◌, unwrap_or}
use Rattle.digits.specs.declared.Form.{Form}

-- at most so many decimals, and digits before the point
abbrev pub Writable : Form → Type 0
Writable f = (f.decimals ≤ 9) × (unwrap_or f.digits 0 ≤ 20)
