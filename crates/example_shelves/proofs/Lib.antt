mod ShelfLaws
