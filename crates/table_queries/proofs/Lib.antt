mod RowLines
