mod Capping
mod Numbered
mod RowsRead
mod TableRows
mod Reading
