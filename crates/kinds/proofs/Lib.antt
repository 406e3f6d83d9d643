mod Found
mod Alike
mod AlikeForms
mod AlikeRelations
