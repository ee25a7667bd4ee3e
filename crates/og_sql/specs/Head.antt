-- What stands before the SQL of the statements.
use Rattle.std.specs.Prelude.{ℕ, List, codes}

-- psql is told to write what it is asked and nothing else, and to stop at the first error
abbrev pub head : List ℕ
head = codes "\\set ON_ERROR_STOP on\n\\set QUIET on\n\\pset format unaligned\n\\pset tuples_only on\nSET client_encoding = 'SQL_ASCII'; SET standard_conforming_strings = on; SET datestyle = iso; SET client_min_messages = warning;\nSET search_path = public, ongoing; SET jit = off;\n"
