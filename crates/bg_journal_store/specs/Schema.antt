-- The tables of a journal.
use Rattle.std.specs.Prelude.{ℕ, true, false, List, [], ◌∷◌, Some, codes}
use Rattle.sqlite.specs.Collation.TheVariants.{Binary}
use Rattle.sqlite.specs.declared.types.Value.TheVariants.{Null}
use Rattle.sqlite.specs.Table.{Table}
use Rattle.sqlite.specs.Schema.{Schema}
use Rattle.sqlite.specs.Kind.TheVariants.{Integer, Text}
use Rattle.sqlite_schema.specs.declared.schema.Column.{Column}

abbrev pub number_column : Column
number_column = record { name = codes "number"; kind = Integer; is_strict = true; not_null = false; default = Null; collation = Binary }

abbrev pub text_column : Column
text_column = record { name = codes "text"; kind = Text; is_strict = true; not_null = true; default = Null; collation = Binary }

-- a STRICT table of texts, whose number is the rowid
abbrev pub texts_table : List ℕ → ℕ → Table
texts_table name tree = record {
  name = name;
  tree = tree;
  columns = number_column ∷ text_column ∷ [];
  key = Some 0;
  primary = 0 ∷ [];
  uniques = [];
  orders = [];
  checks = [];
  references = [];
  computed = [];
  stamps = record { places = []; terms = []; formats = [] };
  is_counted = false;
}

abbrev pub entries : Table
entries = texts_table (codes "entries") 0

abbrev pub settings : Table
settings = texts_table (codes "settings") 1

abbrev pub schema_of : List Table → Schema
schema_of tables = record { tables = tables; indexes = []; views = [] }

abbrev pub no_schema : Schema
no_schema = schema_of []

abbrev pub journal_schema : Schema
journal_schema = schema_of (entries ∷ settings ∷ [])

-- the one text of the settings: the version of the journal's form
abbrev pub version : List ℕ
version = codes "1"
