-- What a page holds.
use Rattle.std.specs.Prelude.{ℕ, List, take}
use Rattle.ww_base.specs.declared.page.Page.{Page}

-- the bytes that are still to be sent
abbrev pub held : Page → List ℕ
held page = take page.used page.bytes

-- how many bytes of items its last line has, whether they are sent or not
abbrev pub column_of : Page → ℕ
column_of page = page.column
