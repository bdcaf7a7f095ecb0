mod Chained
mod GoingOn
